-- `grant` asks the stages, and searches where they pass: the answer's definition goes the same way. Assumes nothing.
use mathlib.Core.Path.{sym, ap, ◌∙◌}
use native.Mathlib.Omega.{arith}
use Rattle.change.proofs.EnterLaws.{plan_periods, start_entered}
use Rattle.change.specs.Stages.{stages_first}
use Rattle.numbers.specs.Chain.{first_of}
use Rattle.numbers.specs.Chain.{Passed}
use Rattle.records.specs.Request.{read_request, requested}
use Rattle.std.proofs.Common.{List, ℕ, ◌≡◌, ◌≤◌}
use Rattle.timetable.proofs.Sound.{ranged_is, sound_from}
use Rattle.timetable.specs.declared.Timetable.{Timetable}
use Rattle.change.proofs.Passing.{answer_first, answer_listed, answer_searched, first_number, first_passes, first_range, listed_number, passes, ready_plan}
use Rattle.change.proofs.ToldLaws.{told_early}
use Rattle.change.specs.Change.{answer_of, search_of, start_plan}
use Rattle.records.specs.declared.Request.{Request}
use Rattle.change.proofs.deciding.grant.Goals as goal

pub returns-in_err-asked : goal.returns-in_err-asked
returns-in_err-asked c =
    let t = c.args.t.now in
    let e = rw c.known_sound-sound.ensures at c.in_err-asked.ensures.refused in
    let k = told_early t c.args.request.now c.args.area c.from_residual.result _ c.from_residual.ensures.1 (answer_first t _ _ _ e) (first_number t _ _ _ e) in
    record { told = k.0; refused = k.1 }

-- A request that passed the first stages is not before the base.
later : (t : Timetable) (s : List ℕ) (area : ℕ) (q : Request) → first_of (stages_first t (read_request s) area) ≡ Passed → q ≡ requested (read_request s)
    → t.base.0 ≤ q.slot.0
later t s area q p e = omega (arith, (first_passes t _ _ p).2, ap (λ (r : Request). r.slot.0) e)

pub overflow_sub-asked : goal.overflow_sub-asked
overflow_sub-asked c =
    let k = c.in_ok-asked.ensures in
    later c.args.t.now c.args.request.now c.args.area _ (rw c.known_sound-sound.ensures at k.passed) k.asked

pub enter_all-requires : goal.enter_all-requires
enter_all-requires c = ranged_is c.args.t.now.entries (sound_from c.args.t.now c.requires).ranged

pub listed_stages-requires : goal.listed_stages-requires
listed_stages-requires c =
    let t = c.args.t.now in
    let k = c.in_ok-asked.ensures in
    let q = rw c.known_sound-sound.ensures at k.passed in
    let s = start_entered t _ (sound_from t c.requires) (rw c.known_sound-sound.ensures at c.known_sound-sound.result.entries) (later t _ _ _ q k.asked) _ c.enter_all.ensures in
    plan_periods t _ _ (s ∙ ap (start_plan t) k.asked) (first_range t _ _ q).asks

pub returns-in_err-listed_stages : goal.returns-in_err-listed_stages
returns-in_err-listed_stages c =
    let t = c.args.t.now in
    let k = c.in_ok-asked.ensures in
    let q = rw c.known_sound-sound.ensures at k.passed in
    let s = start_entered t _ (sound_from t c.requires) (rw c.known_sound-sound.ensures at c.known_sound-sound.result.entries) (later t _ _ _ q k.asked) _ c.enter_all.ensures in
    let p = s ∙ ap (start_plan t) k.asked in
    let e = c.in_err-listed_stages.ensures in
    let k =
    told_early t c.args.request.now c.args.area c.from_residual-in_err-listed_stages.result _ c.from_residual-in_err-listed_stages.ensures.1
    (answer_listed t _ _ q _ p _ e) (listed_number t _ _ q _ p _ e) in
    record { told = k.0; refused = k.1 }

pub searched-requires : goal.searched-requires
searched-requires c =
    let t = c.args.t.now in
    let k = c.in_ok-asked.ensures in
    let q = rw c.known_sound-sound.ensures at k.passed in
    let s = start_entered t _ (sound_from t c.requires) (rw c.known_sound-sound.ensures at c.known_sound-sound.result.entries) (later t _ _ _ q k.asked) _ c.enter_all.ensures in
    let p = s ∙ ap (start_plan t) k.asked in
    let f = c.in_ok-listed_stages.ensures in
    let r = (passes t _ _ q _ p f).range in
    record {
      in_range = (omega (arith, r.slot, ap (λ (r : Request). r.slot.0) k.asked), omega (arith, r.limit, ap (λ (r : Request). r.limit) k.asked));
      start = s;
      ready = ready_plan t _ _ q _ p f;
    }

pub returns : goal.returns
returns c =
    let t = c.args.t.now in
    let k = c.in_ok-asked.ensures in
    let q = rw c.known_sound-sound.ensures at k.passed in
    let s = start_entered t _ (sound_from t c.requires) (rw c.known_sound-sound.ensures at c.known_sound-sound.result.entries) (later t _ _ _ q k.asked) _ c.enter_all.ensures in
    let p = s ∙ ap (start_plan t) k.asked in
    let f = c.in_ok-listed_stages.ensures in
    record {
      told =
          c.searched.ensures.told
          ∙ ap (λ (r : Request). answer_of t r (search_of t r)) k.asked
          ∙ sym (answer_searched t _ _ q _ p f);
      refused = c.searched.ensures.refused;
    }
