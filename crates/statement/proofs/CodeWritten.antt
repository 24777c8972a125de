-- How the outputs of a statement grow (Account and its calls, "Statement"): from the first reading boundary by boundary to the last.
-- Assumes nothing.
use mathlib.Core.Path.{◌≡◌, refl, sym, ap, ap₂, ◌∙◌}
use mathlib.Core.Bool.{true, false}
use mathlib.Core.List.{List, [], ◌∷◌, ◌++◌, map, map-append, append_assoc}
use Prim.Native.Nat.{ℕ, zero, suc, ◌+◌, ◌-◌, ◌≤◌, ◌<◌}
use native.Mathlib.Numerals.{add-one}
use native.Mathlib.Omega.{arith}
use lib.ListN.{length, set, replicate, length-append, length-replicate, length-map}
use lib.Seq.{set-append_seam}
use Rattle.common.specs.Below.{last}
use Rattle.account.specs.Stands.{Stands, first_reading, last_reading}
use Rattle.statement.specs.declared.Progress.{Progress}
use Rattle.statement.specs.Split.{has}
use Rattle.common.specs.Rows.{filled}
use Rattle.statement.specs.Parts.{Part, Outputs, outputs, marked, part_to, parts_below, parts_of, written}
use Rattle.statement.proofs.Has.{has_reading}
use Rattle.statement.proofs.Parts.{Ends, is_end, below_part, below_none, none_until, none_more, parts_fit}
use Rattle.statement.specs.Progress.{Written, Addable, with_part, next_part}

-- Lists filled with zeros.
padded_long : (n : ℕ) (xs : List ℕ) → length xs ≤ n → length (filled n xs) ≡ n
padded_long n xs h = simp (length-append, length-replicate) (omega arith)

padded_set : (n : ℕ) (xs : List ℕ) (x : ℕ) → length xs < n → set (filled n xs) (length xs) x ≡ filled n (xs ++ (x ∷ []))
padded_set n xs x h =
    let more : n - length xs ≡ suc (n - length (xs ++ (x ∷ []))) = simp length-append (omega arith) in
    rw more (set-append_seam xs 0 (replicate (n - length (xs ++ (x ∷ []))) 0) x ∙ sym (append_assoc xs (x ∷ []) _))

-- one field of the next part is stored
stored : (n : ℕ) (ps : List Part) (part : Part) (f : Part → ℕ) (j v : ℕ) → j ≡ length ps → length ps < n → v ≡ f part →
    set (filled n (map f ps)) j v ≡ filled n (map f (ps ++ (part ∷ [])))
stored n ps part f j v here room same =
    let at : j ≡ length (map f ps) = here ∙ sym (length-map ps f) in
    let fits : length (map f ps) < n = rw (length-map ps f) room in
    rw (at, same, map-append f ps (part ∷ [])) (padded_set n (map f ps) (f part) fits)

pub outputs_same : {a b c d e f : List ℕ} → a ≡ d → b ≡ e → c ≡ f → outputs a b c ≡ outputs d e f
outputs_same p q r = λ i. outputs (p i) (q i) (r i)

-- the same, of outputs and progress that are equal to these
pub written_same : {w : List ℕ} {s : Stands} {m : ℕ} {o o' : Outputs} {d d' : Progress} → Written w s m o d → o' ≡ o → d' ≡ d → Written w s m o' d'
written_same h same-o same-d = rw (same-o, same-d) h

-- each output is n long
pub record Long (n : ℕ) (o : Outputs) : Type 0 where
  pub from : length o.from ≡ n
  pub to : length o.to ≡ n
  pub wh : length o.wh ≡ n

module _ (w : List ℕ) (s : Stands) where
  -- there are fewer parts than boundaries
  fewer : (m : ℕ) → 0 < m → length (parts_below w s m) < m
  fewer zero h = absurd (omega arith)
  fewer (suc m) h = omega (arith, parts_fit w s m)

  pub written_none : (m : ℕ) (o : Outputs) (d : Progress) → Written w s m o d → marked s m ≡ false → Written w s (m + 1) o d
  unfolding last
  written_none m o d h bare =
      let same : parts_below w s (suc m) ≡ parts_below w s m = below_none w s m (rw bare) in
      rw add-one (record { holds = rw same h.holds; parts = rw same h.parts; start = rw bare h.start; count = rw bare h.count })

  pub written_part : (m : ℕ) (o : Outputs) (d : Progress) (v : ℕ) → Written w s m o d → Ends w s m → m ≤ length w →
      v ≡ has w s.readings m → Written w s (m + 1) (with_part o d m v) (next_part d m v)
  unfolding last
  written_part m o d v h ends within is =
      let here = ends.mark in
      let ps = parts_below w s m in
      let part = part_to w s m in
      let room : length ps < length w = omega (arith, fewer m (omega (arith, ends.after))) in
      let next = below_part w s m (is_end w s m ends) in
      let store : (f : Part → ℕ) (x : ℕ) → x ≡ f part → set (filled (length w) (map f ps)) d.parts x ≡ filled (length w) (map f (ps ++ (part ∷ []))) = λ f x same. stored (length w) ps part f d.parts x h.parts room same in
      rw (add-one m)
      (record {
        holds =
            ap {B = Outputs} (λ (x : Outputs). with_part x d m v) h.holds ∙
            outputs_same (store (λ p. p.from) d.start h.start) (store (λ p. p.to) m refl) (store (λ p. p.wh) (v - d.count) (ap₂ ◌-◌ is h.count)) ∙
            ap (written (length w)) (sym next);
        parts = rw (next, length-append) (omega arith);
        start = rw here;
        count = rw (here, is);
      })

  -- the outputs keep the length n
  pub written_long : (m : ℕ) (o : Outputs) (d : Progress) → Written w s m o d → 0 < m → m ≤ suc (length w) → Long (length w) o
  written_long m o d h above within =
      let keeps : (f : Part → ℕ) → length (filled (length w) (map f (parts_below w s m))) ≡ length w = λ f. padded_long (length w) (map f (parts_below w s m)) (rw (length-map (parts_below w s m) f) (omega (arith, fewer m above))) in
      rw h.holds (record { from = keeps (λ p. p.from); to = keeps (λ p. p.to); wh = keeps (λ p. p.wh) })

  pub written_addable : (m : ℕ) (o : Outputs) (d : Progress) (v : ℕ) → Written w s m o d → last (marked s) m < m → m ≤ length w → m < 65_536 →
      d.count ≤ v → Addable o d m v
  written_addable m o d v h below within small rises =
      let fits : d.parts < length w = omega (arith, fewer m (omega arith), h.parts) in
      let keeps = written_long m o d h (omega arith) (omega arith) in
      record {
        from = omega arith;
        to = omega arith;
        wh = omega arith;
        starts = omega (arith, h.start);
        ends = small;
        rises = rises;
      }

  -- at the first reading nothing is written yet
  pub written_first : (p : ℕ) (o : Outputs) → first_reading (length w) s.readings ≡ p → s.readings.at p ≡ true → o ≡ written (length w) [] →
      Written w s (p + 1) o (record { start = p; count = s.readings.count p; parts = 0 })
  unfolding last
  written_first p o is here clear =
      let none : parts_below w s (suc p) ≡ [] = none_until w s (suc p) (omega arith) in
      rw (add-one p)
      (record {
        holds = rw none clear;
        parts = rw none;
        start = rw here;
        count = rw here (sym (has_reading w s.readings p here));
      })

  -- at the last reading all is written
  pub written_last : (p : ℕ) (o : Outputs) (d : Progress) → Written w s (p + 1) o d → last_reading (length w) s.readings ≡ p → p ≤ length w →
      (o ≡ written (length w) (parts_of w s)) × (d.parts ≡ length (parts_of w s))
  written_last p o d h is within =
      let same = none_more w s p is within ∙ ap (parts_below w s) (sym (add-one p)) in
      (h.holds ∙ ap (written (length w)) (sym same), h.parts ∙ ap length (sym same))
