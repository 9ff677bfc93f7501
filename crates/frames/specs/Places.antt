-- Helpers of the contracts in src/output.rt and src/stream.rt: what a program's two buffers hold.
use Rattle.std.specs.Prelude.{List, ℕ}

-- An input: the bytes of its buffer, and the places between which what is unread stands.
pub record InputBuffer : Type 0 where
  pub bytes : List ℕ
  pub from : ℕ
  pub to : ℕ

-- An output: the bytes of its buffer, and the place where the text that waits ends.
pub record OutputBuffer : Type 0 where
  pub bytes : List ℕ
  pub put : ℕ
