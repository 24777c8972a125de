-- The energy between two marked boundaries is what the later has less what the earlier has (Account and its calls, "Statement"). Assumes nothing.
use mathlib.Core.Path.{◌≡◌, refl, ◌∙◌}
use mathlib.Core.Bool.{Bool, true, false}
use mathlib.Core.List.{List}
use mathlib.Core.Logic.{⊎_elim}
use Prim.Native.Nat.{ℕ, zero, suc, ◌+◌, ◌≤◌, ◌<◌}
use native.Mathlib.Nat.{eq-or-lt_of_le}
use native.Mathlib.Omega.{arith}
use lib.ListN.{length}
use Rattle.common.specs.Below.{last}
use Rattle.account.specs.Stands.{Stands, first_reading, last_reading}
use Rattle.common.proofs.Below.{clash, last_found, last_most}
use Rattle.statement.specs.Split.{earlier, later, has}
use Rattle.statement.specs.Parts.{marked, part_to, parts_below, parts_of}
use Rattle.statement.specs.Facts.{Valid}
use Rattle.statement.proofs.Order.{Read, LiesBetween, enclosed}
use Rattle.statement.proofs.Has.{has_mono}
use Rattle.statement.proofs.Parts.{Ends, energy_of, counts, not_before, not_after, energy_more, energy_same}

-- what the parts that end below m add to the energy from a on is what the last mark below m has less what a has
abbrev Adds : List ℕ → Stands → ℕ → ℕ → ℕ → Type 0
Adds w s a b m = energy_of a b (parts_below w s m) + has w s.readings a ≡ has w s.readings (last (marked s) m)

module _ (w : List ℕ) (s : Stands) (read : Read (length w) s.readings) where
  -- the part that ends at k lies between the two readings that enclose k
  pub record Lies (k : ℕ) : Type 0 where
    pub encloses : LiesBetween (length w) s.readings (earlier s.readings k) (later (length w) s.readings k) k
    pub starts : earlier s.readings k ≤ last (marked s) k
    pub ahead : last (marked s) k < k

  pub lies : (k : ℕ) → Ends w s k → Lies k
  lies k ends =
      let e = enclosed (length w) s.readings _ _ k read.first.holds read.last.holds ends.after ends.upto (omega arith) in
      let mark : marked s (earlier s.readings k) ≡ true = rw e.adjacent.at_p in
      let l = last_found (marked s) k (earlier s.readings k) e.after mark in
      record { encloses = e; starts = last_most (marked s) l e.after mark; ahead = l.below }

  module _ (valid : Valid w s.readings) where
    pub rises : (k : ℕ) → Ends w s k → has w s.readings (last (marked s) k) ≤ has w s.readings k
    rises k ends =
        let l = lies k ends in
        let e = l.encloses in
        has_mono w s.readings valid _ _ e.adjacent e.inside _ k l.starts (omega arith) e.upto

    module _ (a b : ℕ) (mark-a : marked s a ≡ true) (mark-b : marked s b ≡ true) (low : first_reading (length w) s.readings ≤ a)
        (le : a ≤ b) (high : b ≤ last_reading (length w) s.readings) where
      -- a part that ends at a or before it, or after b, is not counted
      before : (m : ℕ) → m ≤ suc a → energy_of a b (parts_below w s m) ≡ 0
      unfolding energy_of parts_below
      before zero h = refl
      before (suc m) h =
          energy_same w s a b m (λ ends. not_before a b (part_to w s m) (omega (arith, lies m ends))) ∙ before m (omega arith)

      after : (m : ℕ) → b ≤ m → energy_of a b (parts_below w s (suc m)) ≡ energy_of a b (parts_below w s (suc b))
      after zero h = let same : b ≡ 0 = omega arith in rw same
      after (suc m) h =
          ⊎_elim (λ same. rw same)
          (λ lt. energy_same w s a b (suc m) (λ ends. not_after a b (part_to w s (suc m)) lt) ∙ after m (omega arith)) (eq-or-lt_of_le h)

      start : (m : ℕ) → a ≡ m → Adds w s a b (suc m)
      unfolding last
      start m same = rw (← same) (rw (before (suc a) (omega arith), mark-a) (omega arith))

      step : (m : ℕ) → a < m → m ≤ b → Adds w s a b m → Adds w s a b (suc m)
      unfolding last
      step m lo hi rest = go (marked s m) refl
        where
          go : (t : Bool) → marked s m ≡ t → Adds w s a b (suc m)
          go true e =
              let ends : Ends w s m = record { mark = e; after = omega arith; upto = omega arith } in
              let from-a = last_most (marked s) (last_found (marked s) m a lo mark-a) lo mark-a in
              rw e (omega (arith, energy_more w s a b m ends, counts a b (part_to w s m) (omega arith) hi, rises m ends))
          go false e = rw (energy_same w s a b m (λ ends. absurd (clash ends.mark e)), e) rest

      within : (m : ℕ) → a ≤ m → m ≤ b → Adds w s a b (suc m)
      within zero lo hi = start zero (omega arith)
      within (suc m) lo hi =
          ⊎_elim (start (suc m)) (λ lt. step (suc m) lt hi (within m (omega arith) (omega arith))) (eq-or-lt_of_le lo)

      pub telescopes : energy_of a b (parts_of w s) + has w s.readings a ≡ has w s.readings b
      unfolding last
      telescopes =
          let up : b ≤ length w = omega (arith, read.last.below) in
          rw (after (length w) up) (rw mark-b at (within b le (omega arith)))
