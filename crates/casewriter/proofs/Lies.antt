-- Bytes that lie in a file from an offset on (K2, Case file): of texts one after the other, of numbers, and of the items of a section. Assumes nothing.
use Prim.Native.Nat.{ℕ, zero, suc, ◌+◌, ◌*◌, ◌-◌, ◌/◌, ◌%◌, ◌^◌, ◌≤◌, ◌<◌}
use mathlib.Core.Path.{◌≡◌, refl, sym, ◌∙◌, ap, subst}
use mathlib.Core.Bool.{Bool, true, false, cond}
use mathlib.Core.List.{List, [], ◌∷◌, ◌++◌}
use native.Mathlib.Omega.{arith}
use native.Mathlib.Nat.{add-zero, pow-suc}
use native.Mathlib.Decide.{dec_lt}
use lib.ListN.{length, get_or, length-append, get_or-append}
use lib.Seq.{ext_get_or, get_or-append-add}
use Rattle.common.specs.Below.{how_many}
use Rattle.common.proofs.Below.{below_suc}
use Rattle.casefile.specs.Bytes.{little, number16}
use Rattle.casefile.specs.Case.{item_at}
use Rattle.casewriter.specs.Bytes.{little_bytes}
use Rattle.casewriter.specs.File.{items, section}
use Rattle.casewriter.proofs.Sizes.{bytes_long, items_long, section_long}

pub record Lies (s : List ℕ) (at : ℕ) (text : List ℕ) : Type 0 where
  pub inside : at + length text ≤ length s
  pub each : (i : ℕ) → i < length text → get_or s (at + i) 0 ≡ get_or text i 0

pub lies_none : (s : List ℕ) (at : ℕ) → at ≤ length s → Lies s at []
lies_none s at l = record { inside = omega arith; each = λ i h. absurd (omega arith) }

-- one text after the other
module _ {s : List ℕ} {at : ℕ} (xs ys : List ℕ) where
  pub lies_both : Lies s at xs → Lies s (at + length xs) ys → Lies s at (xs ++ ys)
  lies_both a b = record { inside = simp length-append (omega arith); each = λ i h. go i (simp length-append at h) (dec_lt i (length xs)) }
    where
      go : (i : ℕ) → i < length xs + length ys → Dec (i < length xs) → get_or s (at + i) 0 ≡ get_or (xs ++ ys) i 0
      go i h (yes l) = a.each i l ∙ sym (get_or-append xs ys 0 i l)
      go i h (no g) =
          let e : i ≡ length xs + (i - length xs) = omega arith in
          let f : at + i ≡ at + length xs + (i - length xs) = omega arith in
          ap (λ (k : ℕ). get_or s k 0) f ∙ b.each (i - length xs) (omega arith) ∙ sym (get_or-append-add xs ys (i - length xs) 0) ∙ ap (λ (k : ℕ). get_or (xs ++ ys) k 0) (sym e)

  pub lies_first : Lies s at (xs ++ ys) → Lies s at xs
  lies_first a =
      let l = length-append xs ys in
      record { inside = omega (arith, a.inside); each = λ i h. a.each i (omega arith) ∙ get_or-append xs ys 0 i h }

  pub lies_rest : Lies s at (xs ++ ys) → Lies s (at + length xs) ys
  lies_rest a =
      let l = length-append xs ys in
      record {
        inside = omega (arith, a.inside);
        each = λ i h.
            let f : at + length xs + i ≡ at + (length xs + i) = omega arith in
            ap (λ (k : ℕ). get_or s k 0) f ∙ a.each (length xs + i) (omega arith) ∙ get_or-append-add xs ys i 0;
      }

-- the whole of it
pub lies_whole : (s : List ℕ) → Lies s 0 s
lies_whole s = record { inside = omega arith; each = λ i h. ap (λ (k : ℕ). get_or s k 0) (omega arith) }

pub lies_all : (s text : List ℕ) → Lies s 0 text → length s ≤ length text → text ≡ s
lies_all s text a l =
    ext_get_or 0 text s (omega (arith, a.inside)) λ i h.
    let e : i ≡ 0 + i = omega arith in
    sym (ap (λ (k : ℕ). get_or s k 0) e ∙ a.each i h)

-- the bytes of a number, and the number that is read from them
pub number_lies : (width : ℕ) {s : List ℕ} {at : ℕ} (n : ℕ) → n < 256 ^ width → Lies s at (little_bytes width n) → little width s at ≡ n
unfolding little_bytes little
number_lies zero n l a = omega arith
number_lies (suc width) {s} {at} n l a =
    let low : get_or s at 0 ≡ n % 256 = simp add-zero at (a.each 0 (omega arith)) in
    let rest = number_lies width (n / 256) (omega (arith, pow-suc 256 width)) (lies_rest (n % 256 ∷ []) (little_bytes width (n / 256)) a) in
    omega arith

pub number_back : (width : ℕ) (s : List ℕ) (at : ℕ) → ((i : ℕ) → get_or s i 0 < 256) → at + width ≤ length s → Lies s at (little_bytes width (little width s at))
unfolding little_bytes little
number_back zero s at bytes l = lies_none s at (omega arith)
number_back (suc width) s at bytes l =
    let m = little width s (at + 1) in
    let b = bytes at in
    let low : (get_or s at 0 + 256 * m) % 256 ≡ get_or s at 0 = omega arith in
    let high : (get_or s at 0 + 256 * m) / 256 ≡ m = omega arith in
    rw (low, high)
    (lies_both (get_or s at 0 ∷ []) (little_bytes width m)
    (record { inside = omega arith; each = λ i h. let z : i ≡ 0 = omega arith in rw (z, add-zero) refl })
    (number_back width s (at + 1) bytes (omega arith)))

-- the items of a section, each `width` bytes long
module _ (width : ℕ) (p : ℕ → Bool) (item : ℕ → List ℕ) (long : (k : ℕ) → length (item k) ≡ width) where
  -- where all of them lie, each lies after those before it; and the other way
  pub items_lie : {s : List ℕ} {at : ℕ} (m : ℕ) → Lies s at (items p item m) → (k : ℕ) → k < m → p k ≡ true → Lies s (at + width * how_many p k) (item k)
  unfolding items
  items_lie zero a k l h = absurd (omega arith)
  items_lie {s} {at} (suc m) a k l h =
      below_suc (λ j. p j ≡ true → Lies s (at + width * how_many p j) (item j)) m (items_lie m (lies_first (items p item m) _ a))
      (λ here. subst (λ (i : ℕ). Lies s (at + i) (item m)) (items_long width p item long m) (rw here at (lies_rest (items p item m) _ a))) k l h

  pub items_back : {s : List ℕ} {at : ℕ} (m : ℕ) → at ≤ length s → ((k : ℕ) → k < m → p k ≡ true → Lies s (at + width * how_many p k) (item k)) → Lies s at (items p item m)
  unfolding items
  items_back {s} {at} zero l all = lies_none s at l
  items_back {s} {at} (suc m) l all =
      let before = items_back m l (λ k h. all k (omega arith)) in
      lies_both (items p item m) _ before (go (p m) refl before)
    where
      go : (b : Bool) → p m ≡ b → Lies s at (items p item m) → Lies s (at + length (items p item m)) (cond b (item m) [])
      go true e before = subst (λ (i : ℕ). Lies s (at + i) (item m)) (sym (items_long width p item long m)) (all m (omega arith) e)
      go false e before = lies_none s _ before.inside

  -- a section that lies from an offset on is the one that the reader finds there
  pub record Found (s : List ℕ) (at m : ℕ) : Type 0 where
    pub counted : number16 s at ≡ how_many p m
    pub inside : item_at width at (how_many p m) ≤ length s
    pub each : (k : ℕ) → k < m → p k ≡ true → Lies s (item_at width at (how_many p k)) (item k)

  pub found : {s : List ℕ} {at : ℕ} (m : ℕ) → how_many p m < 65536 → Lies s at (section p item m) → Found s at m
  found {s} {at} m few a =
      let count = lies_first (little_bytes 2 (how_many p m)) (items p item m) a in
      let rest = subst (λ (i : ℕ). Lies s (at + i) (items p item m)) (bytes_long 2 (how_many p m)) (lies_rest (little_bytes 2 (how_many p m)) (items p item m) a) in
      record {
        counted = number_lies 2 (how_many p m) few count;
        inside = omega (arith, a.inside, section_long width p item long m);
        each = items_lie m rest;
      }

  pub found_back : {s : List ℕ} {at : ℕ} (m : ℕ) → ((i : ℕ) → get_or s i 0 < 256) → Found s at m → Lies s at (section p item m)
  found_back {s} {at} m bytes f =
      lies_both (little_bytes 2 (how_many p m)) (items p item m)
      (subst (λ (n : ℕ). Lies s at (little_bytes 2 n)) f.counted (number_back 2 s at bytes (omega (arith, f.inside))))
      (subst (λ (i : ℕ). Lies s (at + i) (items p item m)) (sym (bytes_long 2 (how_many p m))) (items_back m (omega (arith, f.inside)) f.each))
