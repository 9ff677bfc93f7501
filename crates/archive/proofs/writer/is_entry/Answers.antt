-- The tests are those of the definition: not cut short, the id, the k, the bound. Assumes nothing.
use borrow.Author.Tests.{le-leb, le-ltb, lt-leb, lt-ltb}
use lib.ListN.{length}
use native.Mathlib.Omega.{arith}
use Prim.Native.Nat.{◌+◌, ◌*◌}
use Rattle.archive.proofs.WriterLaws.{entry_byte, entry_first, entry_room}
use Rattle.archive.specs.RequestWrite.{id_of, is_entry, k_of}
use Rattle.slots.specs.Limits.{IDS, LARGEST_K}
use Rattle.archive.proofs.writer.is_entry.Goals as goal

pub returns-in_default : goal.returns-in_default
unfolding is_entry
returns-in_default c =
    let a = c.args in
    rw (lt-leb (3 * a.n + 3) (length a.listing.now) (omega (arith, entry_room a.listing.now a.n, c.in_default.len_below)))

pub returns-then-id-ge-IDS : goal.returns-then-id-ge-IDS
unfolding is_entry
returns-then-id-ge-IDS c =
    let a = c.args in
    let l = a.listing.now in
    let r = entry_room l a.n in
    rw (
      le-leb (3 * a.n + 3) (length l) (omega (arith, r, c.in-len3-up.len_at_least)),
      le-ltb (id_of l a.n) IDS (omega (arith, entry_first l a.n, c.if-id-ge-IDS.true)),
    )

pub returns-then-k-gt-LARGEST_K : goal.returns-then-k-gt-LARGEST_K
unfolding is_entry
returns-then-k-gt-LARGEST_K c =
    let a = c.args in
    let l = a.listing.now in
    let r = entry_room l a.n in
    rw (
      le-leb (3 * a.n + 3) (length l) (omega (arith, r, c.in-len3-up.len_at_least)),
      lt-ltb (id_of l a.n) IDS (omega (arith, entry_first l a.n, c.if-id-ge-IDS.false)),
      lt-leb (k_of l a.n) LARGEST_K (omega (arith, entry_byte l a.n 1, c.if-k-gt-LARGEST_K.true)),
    )

pub returns : goal.returns
unfolding is_entry
returns c =
    let a = c.args in
    let l = a.listing.now in
    let r = entry_room l a.n in
    rw (
      le-leb (3 * a.n + 3) (length l) (omega (arith, r, c.in-len3-up.len_at_least)),
      lt-ltb (id_of l a.n) IDS (omega (arith, entry_first l a.n, c.if-id-ge-IDS.false)),
      le-leb (k_of l a.n) LARGEST_K (omega (arith, entry_byte l a.n 1, c.if-k-gt-LARGEST_K.false)),
      ← entry_byte l a.n 2,
    )
    c.is_bound.ensures
