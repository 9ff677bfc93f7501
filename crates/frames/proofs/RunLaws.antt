-- What a run put into the output is what the program prints for all that the run read. Assumes nothing.
use mathlib.Core.List.{List, [], ◌++◌, append_assoc, append-nil}
use mathlib.Core.Path.{◌≡◌, subst}
use Prim.Native.Nat.{ℕ, suc, ◌+◌, ◌-◌, ◌<◌}
use Rattle.frames.proofs.ProgramLaws.{awaited_more, frame_parts}
use Rattle.frames.specs.Buffers.{Awaited, Inside, StandsAhead, behind, between, content_of, unread}
use Rattle.frames.specs.Places.{InputBuffer, OutputBuffer}
use Rattle.frames.specs.Program.{last_line}
use Rattle.frames.specs.Runs.{Prints, Ran, Runs, put_in}
use Rattle.frames.specs.Runs.Prints.{last, next}
use Rattle.frames.specs.Runs.Runs.{start, frame}
use Rattle.std.specs.Prelude.{Option, Some, None}

module _ (State : Type 0) (Gives : State → List ℕ → List ℕ → State → Type 0) (Put : List ℕ → ℕ → List ℕ → List ℕ → ℕ → Type 0) (first : State) where
  -- Where a run stands, whatever it read and put.
  abbrev pub Stood : Option ℕ → InputBuffer → OutputBuffer → State → Option ℕ → InputBuffer → OutputBuffer → ℕ → Type 0
  Stood begin held waiting s ahead i o n = (read : List ℕ) × (put : List ℕ) × Runs State Gives Put first begin held waiting s ahead i o read put n

  module _ {begin : Option ℕ} {held : InputBuffer} {waiting : OutputBuffer} where
    -- It stands where it begins.
    pub begins : Stood begin held waiting first begin held waiting 0
    begins = (unread held, [], start)

    -- It goes on with the frame ahead.
    pub one_more : {s r : State} {a b : Option ℕ} {i i' : InputBuffer} {o o' o'' : OutputBuffer} {text : List ℕ} {size n : ℕ} → Stood begin held waiting s a i o n → a ≡ Some size → Inside i o size
        → Gives s (content_of i size) text r → Put o.bytes o.put text o'.bytes o'.put → Awaited (behind i size) o' i' o'' b
        → (m : ℕ) → m ≡ suc n → Stood begin held waiting r b i' o'' m
    one_more {s} {r} {a} {b} {i} {i'} {text = text} {size = size} stood e inside gives puts awaited m more =
        rw more (stood.0 ++ between i'.bytes (i'.from + ((behind i size).to - (behind i size).from)) i'.to, stood.1 ++ text, frame stood.2 e inside gives puts awaited)

  module _ {input : InputBuffer} {out : OutputBuffer} {held : InputBuffer} {waiting : OutputBuffer} {begin : Option ℕ} (begun : Awaited input out held waiting begin) where
    -- What a run says to stand ahead stands there.
    frame_ahead : {s : State} {a : Option ℕ} {i : InputBuffer} {o : OutputBuffer} {read put : List ℕ} {n : ℕ} → Runs State Gives Put first begin held waiting s a i o read put n → StandsAhead a (unread i)
    frame_ahead start = begun.frame
    frame_ahead (frame before e inside gives puts awaited) = awaited.frame

    -- What is printed from where a run stands, behind what its answers put, is printed for its whole input.
    goes_on : {s : State} {a : Option ℕ} {i : InputBuffer} {o : OutputBuffer} {read put : List ℕ} {n : ℕ} → Runs State Gives Put first begin held waiting s a i o read put n
        → (more later : List ℕ) → Prints State Gives s (unread i ++ more) later → Prints State Gives first (read ++ more) (put ++ later)
    goes_on start more later h = h
    goes_on (frame {s} {r} {a} {b} {i} {i'} {o} {o'} {o''} {read} {text} {put} {size} before e inside gives puts awaited) more later h =
        let new = between i'.bytes (i'.from + ((behind i size).to - (behind i size).from)) i'.to in
        let ahead : StandsAhead (Some size) (unread i) = subst (λ (x : Option ℕ). StandsAhead x (unread i)) e (frame_ahead before) in
        let f = frame_parts i.bytes i.from (i.from + 3 + size) i.to inside.whole inside.read ahead.0 (rw ahead.1) (new ++ more) in
        let on = awaited_more (behind i size) i' o' o'' b inside.whole awaited in
        let here : Prints State Gives r (between i.bytes (i.from + 3 + size) i.to ++ (new ++ more)) later = rw (on, append_assoc (between i.bytes (i.from + 3 + size) i.to) new more) at h in
        rw (append_assoc read new more, append_assoc put text later)
        (goes_on before (new ++ more) (text ++ later) (next {r = r} {text = text} f.0 (rw f.1 gives) (rw f.2 here)))

  -- A run that is over put what the program prints for all that it read.
  pub ran_prints : {most : ℕ} {input : InputBuffer} {out : OutputBuffer} {input-after : InputBuffer} {out-after : OutputBuffer} → (ran : Ran State Gives Put first most input out input-after out-after) → ran.frames < most
      → Prints State Gives first ran.read (put_in State Gives Put first ran)
  ran_prints {most} {input} {out} {input-after} ran few =
      let rest = unread input-after in
      let none : StandsAhead None rest = subst (λ (x : Option ℕ). StandsAhead x rest) (ran.over few) (frame_ahead ran.awaited ran.runs) in
      rw (append-nil ran.read) at (goes_on ran.awaited ran.runs [] (last_line rest) (rw (append-nil rest) (last none)))
