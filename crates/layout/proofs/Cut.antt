-- The slices of a statement cut to its parts (Case file): they say the same of the parts. Assumes nothing.
use Prim.Native.Nat.{ℕ, zero, suc, ◌≤◌}
use mathlib.Core.Path.{◌≡◌, refl}
use native.Mathlib.Omega.{arith}
use lib.ListN.{take}
use Rattle.std.proofs.lemmas.List.{get_or-take}
use Rattle.common.specs.Below.{somewhere}
use Rattle.statement.specs.Parts.{Outputs, outputs}
use Rattle.statement.specs.Shares.{total}
use Rattle.layout.specs.Text.{part_lines, parts_text}
use Rattle.layout.specs.Parts.{too_great}

module _ (m : ℕ) (o : Outputs) where
  abbrev pub cut : Outputs
  cut = outputs (take m o.from) (take m o.to) (take m o.wh)

  -- up to any of the parts
  lines_cut : (k : ℕ) → k ≤ m → part_lines cut k ≡ part_lines o k
  unfolding part_lines
  lines_cut zero h = refl
  lines_cut (suc k) h = rw (lines_cut k (omega arith), get_or-take m o.from k 0 (omega arith), get_or-take m o.to k 0 (omega arith), get_or-take m o.wh k 0 (omega arith)) refl

  pub total_cut : (k : ℕ) → k ≤ m → total cut k ≡ total o k
  unfolding total
  total_cut zero h = refl
  total_cut (suc k) h = rw (total_cut k (omega arith), get_or-take m o.wh k 0 (omega arith)) refl

  great_below : (k : ℕ) → k ≤ m → too_great cut k ≡ too_great o k
  unfolding somewhere
  great_below zero h = refl
  great_below (suc k) h = rw (great_below k (omega arith), get_or-take m o.wh k 0 (omega arith)) refl

  -- and of as many as there are
  module _ (n : ℕ) (all : n ≡ m) where
    pub great_cut : too_great cut n ≡ too_great o m
    great_cut = rw all (great_below m (omega arith))

    pub text_cut : parts_text cut n ≡ parts_text o m
    text_cut = rw (all, lines_cut m (omega arith), total_cut m (omega arith)) refl
