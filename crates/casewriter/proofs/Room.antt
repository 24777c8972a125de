-- 15,370 bytes are room for every file (K2): a call that answers 15 was lent fewer. Assumes nothing.
use Prim.Native.Nat.{ℕ, ◌-◌}
use mathlib.Core.Path.{◌≡◌, refl, sym, ◌∙◌, ap}
use mathlib.Core.Bool.{Bool, true, false, cond, not}
use native.Mathlib.Omega.{arith}
use borrow.Author.Tests.{ltb-true}
use lib.Dec.{leb, ltb, eqb}
use lib.ListN.{length}
use Rattle.common.specs.Rows.{row}
use Rattle.common.proofs.Rows.{rows_none}
use Rattle.profile.specs.Limits.{profile_count}
use Rattle.weights.specs.Means.{some_out}
use Rattle.account.specs.Account.{unfit_lengths, sound}
use Rattle.account.specs.Slices.{reads_at}
use Rattle.account.proofs.Sound.{fit}
use Rattle.casewriter.specs.File.{cuts_at, file_of}
use Rattle.casewriter.specs.Writer.{account_given, Ruling, ruling}
use Rattle.casewriter.specs.RoundTrip.{RoomEnough}
use Rattle.casewriter.proofs.Listed.{many_most}
use Rattle.casewriter.proofs.Sizes.{file_long}
use Rattle.casewriter.proofs.Accepted.{given_days}

-- 0 for row 15, and 1 for any other
abbrev other : Ruling → ℕ
other r = cond (eqb r.number 15) 0 1

none : ◌≡◌ {A = ℕ} 1 0 → ⊥
none e = omega arith

-- a row that is asked last and answers 15 holds
holds : (b : Bool) (here below : Ruling) → other below ≡ 1 → other (row b here below) ≡ 0 → b ≡ true
holds true here below done e = refl
holds false here below done e = absurd (omega arith)

pub room_enough : RoomEnough
room_enough profile weekday means means_after marks counts before after marksAfter countsAfter placed size met =
    let file = file_of profile weekday means marks counts in
    let given = account_given profile weekday means marks counts in
    let e : other (ruling profile weekday means marks counts before) ≡ 0 = ap {B = ℕ} (λ (n : ℕ). cond (eqb n 15) 0 1) (sym met.answers) in
    let r3 = rows_none other (unfit_lengths (length means - 3) (length marks) (length counts)) _ _ none e in
    let r1 = rows_none other (leb profile_count profile) _ _ none r3.1 in
    let r2 = rows_none other (ltb 6 weekday) _ _ none r1.1 in
    let r4 = rows_none other (some_out means) _ _ none r2.1 in
    let r5 = rows_none other (not (sound given)) _ _ none r4.1 in
    let short = ltb-true (length before) (length file) (holds (ltb (length before) (length file)) _ _ refl r5.1) in
    let f = fit given (ap (λ (n : ℕ). unfit_lengths n (length marks) (length counts)) (given_days profile weekday means marks counts) ∙ r3.0) in
    omega (
      arith,
      file_long profile weekday means marks counts,
      given_days profile weekday means marks counts,
      many_most (reads_at marks) (length marks),
      many_most (cuts_at marks) (length marks),
    )
