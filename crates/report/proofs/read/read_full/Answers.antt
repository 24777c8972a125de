-- `report::read_full` meets its contract (Case file): what a read gives stands after what was read before. Assumes nothing.
use Rattle.std.proofs.Common.{◌≡◌, ℕ, ◌+◌, ◌-◌, ◌≤◌, List, ◌++◌, rules, length, take, drop, sym, ap, ◌∙◌, subst, le_refl, drop_at, length-take-le}
use Rattle.std.proofs.KnownBytes.{Consumes-trans}
use Rattle.std.proofs.lemmas.Slice.{take-put_mid_below}
use Rattle.std.specs.Io.KnownBytes.{Consumes}
use borrow.Rule.Slice.PartMut.{put_mid, post_of}
use lib.Seq.{take-add, take-append-le}
use Rattle.report.proofs.read.read_full.Goals as goal

-- the front of a list after a write to its rest
front : (a k n : ℕ) (xs ys : List ℕ) → a ≤ length xs → n ≤ length ys → take a xs ++ take n ys ≡ take (a + n) (put_mid a k xs ys)
front a k n xs ys within fits =
    let rest = ys ++ post_of a k xs in
    sym
    (take-add a n (put_mid a k xs ys) ∙
    ap (λ l. l ++ take n (drop a (put_mid a k xs ys))) (take-put_mid_below a k xs ys a (le_refl a) within) ∙
    ap (λ l. take a xs ++ take n l) (drop_at (take a xs) rest a (length-take-le a xs within)) ∙
    ap (λ l. take a xs ++ l) (take-append-le n ys (post_of a k xs) fits))

pub loop-done-preserved : goal.loop-done-preserved
loop-done-preserved g c =
    let l = c.loop-done in
    record {
      inside = search rules;
      read =
          subst (Consumes _ _) (front l.done (length l.buffer - l.done) c.in_ok-n.n l.buffer c.read.new.buf l.invariant.inside c.in_ok-n.ensures.bound.0)
          (Consumes-trans _ _ _ _ _ l.invariant.read c.in_ok-n.ensures.bytes.0);
    }
