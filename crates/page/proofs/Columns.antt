-- A number written into its columns from the right (K4): the last digit, the digits before it, then spaces. Assumes nothing.
use Prim.Native.Nat.{ℕ, suc, ◌+◌, ◌-◌, ◌/◌, ◌%◌, ◌^◌, ◌≤◌, ◌<◌}
use mathlib.Core.Path.{◌≡◌, refl, sym, ap, ◌∙◌}
use mathlib.Core.List.{List, [], ◌∷◌, ◌++◌, append_assoc}
use native.Mathlib.Nat.{add-zero}
use native.Mathlib.Omega.{arith}
use lib.ListN.{length, set, take, drop, replicate, length-append, length-drop, length-replicate}
use lib.Seq.{sets, sets-eq, set_comm, length-take-le}
use borrow.Rule.Slice.PartMut.{put_mid}
use Rattle.std.proofs.lemmas.List.{take_all}
use Rattle.std.proofs.lemmas.Slice.{put_mid-paste}
use Rattle.layout.specs.Text.{digit, decimal}
use Rattle.layout.proofs.Decimal.{one_digit, last_digit, some_digit}
use Rattle.page.specs.Page.{aligned}
use Rattle.page.proofs.Sizes.{aligned_long}

-- the last of a text can be stored first
sets_last : (o : List ℕ) (at : ℕ) (xs : List ℕ) (x : ℕ) → sets o at (xs ++ (x ∷ [])) ≡ sets (set o (at + length xs) x) at xs
sets_last o at [] x = ap (λ (k : ℕ). set o k x) (sym (add-zero at))
sets_last o at (y ∷ xs) x =
    let next : suc at + length xs ≡ at + suc (length xs) = omega arith in
    sets_last (set o at y) (suc at) xs x ∙
    ap (λ (k : ℕ). sets (set (set o at y) k x) (suc at) xs) next ∙
    ap (λ (l : List ℕ). sets l (suc at) xs) (set_comm o at (at + suc (length xs)) y x (λ e. omega arith))

-- spaces written to a part of a slice
pub spaces_stored : (page : List ℕ) (at end : ℕ) → end ≤ length page → at ≤ end → {spaces : List ℕ} →
    spaces ≡ replicate (length (take (end - at) (drop at page))) 32 → put_mid at (end - at) page spaces ≡ sets page at (replicate (end - at) 32)
spaces_stored page at end inside order is =
    let k = end - at in
    let text : List ℕ = replicate k 32 in
    let long = length-replicate {A = ℕ} k 32 in
    let room = length-take-le k (drop at page) (omega (arith, length-drop at page)) in
    put_mid-paste at k page _ text k (is ∙ ap (λ (n : ℕ). replicate n 32) room) refl (sym long) ∙
    ap (λ (t : List ℕ). take at page ++ t ++ drop (at + k) page) (take_all k text (omega (arith, long))) ∙
    ap (λ (n : ℕ). take at page ++ text ++ drop (at + n) page) (sym long) ∙
    sym (sets-eq text page at (omega (arith, long)))

-- so a text that ends at `end` is stored from the right
module _ (page : List ℕ) (at end : ℕ) where
  from_right : (text xs : List ℕ) (x : ℕ) → text ≡ xs ++ (x ∷ []) → at + length xs ≡ end - 1 → sets (set page (end - 1) x) at xs ≡ sets page at text
  from_right text xs x is long = sym (ap (sets page at) is ∙ sets_last page at xs x ∙ ap (λ (k : ℕ). sets (set page k x) at xs) long)

  module _ (n : ℕ) where
    -- the first digit, the last that is stored: only spaces are left
    pub first_stored : n < 10 → at < end → sets (set page (end - 1) (digit n)) at (replicate (end - 1 - at) 32) ≡ sets page at (aligned (end - at) (decimal n))
    unfolding aligned
    first_stored low l =
        let left : end - at - 1 ≡ end - 1 - at = omega arith in
        from_right (aligned (end - at) (decimal n)) (replicate (end - 1 - at) 32) (digit n)
        (rw (one_digit n low, left) refl)
        (omega (arith, length-replicate {A = ℕ} (end - 1 - at) 32))

    -- any other digit: the digits before it are those of a tenth of the number
    pub digit_stored : 10 ≤ n → n < 2 ^ 64 → length (decimal n) ≤ end - at →
        (length (decimal (n / 10)) ≤ end - 1 - at) × (sets (set page (end - 1) (digit (n % 10))) at (aligned (end - 1 - at) (decimal (n / 10))) ≡ sets page at (aligned (end - at) (decimal n)))
    unfolding aligned
    digit_stored ten bits fits =
        let before = decimal (n / 10) in
        let is = last_digit n ten bits in
        let more : length (decimal n) ≡ length before + 1 = ap length is ∙ length-append before (digit (n % 10) ∷ []) in
        let room : length before ≤ end - 1 - at = omega arith in
        let left : end - at - length (decimal n) ≡ end - 1 - at - length before = omega arith in
        let long = aligned_long (end - 1 - at) before room in (
          room,
          from_right (aligned (end - at) (decimal n)) (aligned (end - 1 - at) before) (digit (n % 10))
              (ap (λ (k : ℕ). replicate k 32 ++ decimal n) left ∙ ap (λ (l : List ℕ). replicate (end - 1 - at - length before) 32 ++ l) is ∙ sym (append_assoc (replicate (end - 1 - at - length before) 32) before (digit (n % 10) ∷ [])))
              (omega (arith, long, some_digit (n / 10) (omega arith))),
        )
