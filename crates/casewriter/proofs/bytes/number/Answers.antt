-- The lowest bytes of a number, in the words of std and in ours; a part that is copied over is stored (K2). Assumes nothing.
use Rattle.std.proofs.Common.{rules, ◌≡◌, ℕ, zero, suc, ◌+◌, ◌/◌, ◌%◌, ◌^◌, ◌≤◌, List, length, take, refl, sym, ap, ◌∙◌, append_assoc, arith}
use Rattle.std.proofs.Math.Nat.{pow-suc, div-div-eq-div-mul, div-one}
use Rattle.std.proofs.lemmas.List.Edits.{sets, sets-eq}
use Rattle.std.proofs.lemmas.List.{drop-drop}
use Rattle.std.specs.Int.{byte_at, bytes_low_first}
use borrow.Rule.Slice.PartMut.{put_mid}
use Rattle.casewriter.specs.Bytes.{little_bytes}
use Rattle.casewriter.proofs.Sizes.{bytes_long}
use Rattle.casewriter.proofs.bytes.number.Goals as goal

byte_is : (i n : ℕ) → byte_at i n ≡ n / 256 ^ i % 256
byte_is zero n = omega (arith, div-one n)
byte_is (suc i) n = refl

lowest : (i k width n : ℕ) → width ≤ k → take width (bytes_low_first i k n) ≡ little_bytes width (n / 256 ^ i)
unfolding little_bytes
lowest i k zero n h = refl
lowest i zero (suc width) n h = absurd (omega arith)
lowest i (suc k) (suc width) n h =
    let next : n / 256 ^ i / 256 ≡ n / 256 ^ suc i = div-div-eq-div-mul n (256 ^ i) 256 ∙ ap (λ (p : ℕ). n / p) (sym (pow-suc 256 i)) in
    rw (next, byte_is i n, lowest (suc i) k width n (omega arith)) refl

stored : (out new bytes : List ℕ) (at k : ℕ) → new ≡ bytes → k ≡ length bytes → at + length bytes ≤ length out → put_mid at k out new ≡ sets out at bytes
stored out new bytes at k is all room = rw (is, all, drop-drop, sets-eq bytes out at room, append_assoc) refl

pub returns : goal.returns
returns c =
    let a = c.args in
    let low = lowest 0 8 a.width a.n c.requires.0 in
    let whole : c.to_le_bytes.result ≡ bytes_low_first 0 8 a.n = search rules in
    let bytes = c.copy_from_slice.ensures.after ∙ ap (take a.width) whole ∙ low ∙ ap (little_bytes a.width) (div-one a.n) in
    let long = bytes_long a.width a.n in
    stored _ _ _ a.at _ bytes (omega arith) (omega arith)
