-- The rule's own facts (Account and its calls, "Statement"; demand 3), for any n, any weights above 0 and any readings that never fall:
-- the parts add up to last less first, each is less than 1 Wh from its exact share, and the energy from a reading to a marked boundary
-- is fixed by the two readings that enclose it, their counts and the weights between. Assumes nothing.
use mathlib.Core.Path.{◌≡◌, refl}
use mathlib.Core.Bool.{true}
use mathlib.Core.List.{List}
use Prim.Native.Nat.{ℕ, zero, suc, ◌-◌, ◌*◌, ◌≤◌, ◌<◌}
use native.Mathlib.Omega.{arith}
use lib.ListN.{length, get_or}
use borrow.Author.Tests.{le-leb}
use Rattle.rounding.specs.Nearest.{nearest}
use Rattle.common.specs.Below.{last}
use Rattle.account.specs.Stands.{Stands, first_reading, last_reading, last_less_first}
use Rattle.common.proofs.Below.{first_least, last_found, last_most}
use Rattle.statement.specs.Split.{weight_sum, rounded_share, between, earlier, later}
use Rattle.statement.specs.Parts.{Outputs, marked, parts_of, statement_of}
use Rattle.statement.specs.Shares.{Adjacent, Shared, total, energy}
use Rattle.statement.specs.Facts.{Valid, SumsUp, SharesClose, SameEnergy}
use Rattle.statement.proofs.Order.{read, some_read}
use Rattle.statement.proofs.Has.{has_reading, has_between}
use Rattle.statement.proofs.Near.{near}
use Rattle.statement.proofs.Parts.{energy_written, each_written}
use Rattle.statement.proofs.Telescope.{lies, telescopes}
use Rattle.statement.proofs.Together.{share}

-- where every part lies between a and b, the total is the energy between them
total_energy : (o : Outputs) (a b m : ℕ) → ((i : ℕ) → i < m → (a ≤ get_or o.from i 0) × (get_or o.to i 0 ≤ b)) → total o m ≡ energy o a b m
unfolding total energy
total_energy o a b zero inside = refl
total_energy o a b (suc m) inside =
    let (lo, hi) = inside m (omega arith) in
    rw (le-leb a _ lo, le-leb _ b hi, total_energy o a b m (λ i h. inside i (omega arith)))

-- the parts add up to last less first
pub sums_up : SumsUp
unfolding last_less_first
sums_up w s valid two =
    let r = s.readings in
    let n = length w in
    let is = some_read n r two in
    let f = first_reading n r in
    let l = last_reading n r in
    let f≤l = last_most r.at is.last is.first.below is.first.holds in
    let mark_f : marked s f ≡ true = rw is.first.holds in
    let mark-l : marked s l ≡ true = rw is.last.holds in
    let starts : (k : ℕ) → f < k → f ≤ last (marked s) k =
    λ k h. last_most (marked s) (last_found (marked s) k f h mark_f) h mark_f in
    let inside = each_written w s (λ from to wh. (f ≤ from) × (to ≤ l)) (λ k ends. (starts k ends.after, ends.upto)) in
    omega (
      arith,
      total_energy (statement_of w s) f l (length (parts_of w s)) inside,
      energy_written f l n (parts_of w s),
      telescopes w s is valid f l mark_f mark-l (omega arith) f≤l (omega arith),
      has_reading w r f is.first.holds,
      has_reading w r l is.last.holds,
    )

-- each part is less than 1 Wh from its exact share
pub shared : SharesClose
shared w s valid two =
    each_written w s (Shared w s.readings) λ k ends.
    let l = lies w s (some_read (length w) s.readings two) k ends in
    let e = l.encloses in
    share (earlier s.readings k) (later (length w) s.readings k) e.adjacent l.starts e.upto (near w s.readings valid _ _ e.adjacent e.inside _ k l.starts (omega arith) e.upto)

module _ (w : List ℕ) (s : Stands) (valid : Valid w s.readings) where
  -- the energy between a reading and a marked boundary is the boundary's share of what the next reading has more
  pub energy_is : (p q b : ℕ) → Adjacent s.readings.at p q → q ≤ length w → p ≤ b → b ≤ q → marked s b ≡ true →
      energy (statement_of w s) p b (length (parts_of w s)) ≡
      rounded_share (s.readings.count q - s.readings.count p) (weight_sum w p b) (weight_sum w p q)
  unfolding between
  energy_is p q b a inside low high mark =
      let r = s.readings in
      let is = read (length w) r q inside a.at_q in
      let mark-p : marked s p ≡ true = rw a.at_p in
      let from = first_least r.at is.first a.at_p in
      let upto = last_most r.at is.last (omega arith) a.at_q in
      omega (
        arith,
        energy_written p b (length w) (parts_of w s),
        telescopes w s is valid p b mark-p mark from low (omega arith),
        has_reading w r p a.at_p,
        has_between w r valid p q a inside b low high,
      )

  pub energy_nearest : (p q b : ℕ) → Adjacent s.readings.at p q → q ≤ length w → p ≤ b → b ≤ q → marked s b ≡ true →
      energy (statement_of w s) p b (length (parts_of w s)) ≡
      nearest ((s.readings.count q - s.readings.count p) * weight_sum w p b) (weight_sum w p q)
  unfolding rounded_share
  energy_nearest = energy_is

pub same_energy : SameEnergy
same_energy w s t valid-s fair-t p q b adj-s adj-t same-p same-q inside low high mark-s mark-t =
    rw (energy_is w s valid-s p q b adj-s inside low high mark-s, energy_is w t fair-t p q b adj-t inside low high mark-t, same-p, same-q)
