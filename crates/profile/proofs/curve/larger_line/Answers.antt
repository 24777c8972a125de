-- `profile::curve::larger_line` meets its contract (Profile value). Assumes nothing.
use Rattle.std.proofs.Common.{rules, arith}
use Rattle.std.proofs.lemmas.Int.{ints, clamps}
use mir.Syntax.{w32}
use mir.Val.{SFits}
use mir.Facts.{to_z-of_z}
use Rattle.profile.proofs.Integer.{larger_is}
use Rattle.profile.proofs.curve.larger_line.Goals as goal

pub returns : goal.returns
returns c =
    let p = c.args.p in
    let mh : SFits w32 p.mh = search rules in
    let bh : SFits w32 p.bh = search rules in
    let mw : SFits w32 p.mw = search rules in
    let bw : SFits w32 p.bw = search rules in
    let heating = simp (to_z-of_z mh, to_z-of_z bh, to_z-of_z c.ranges.t) at c.line_at.ensures.is in
    let water = simp (to_z-of_z mw, to_z-of_z bw, to_z-of_z c.ranges.t) at c.line_at-2.ensures.is in
    record {
      is = rw (← heating, ← water, ← larger_is c.line_at.result c.line_at-2.result) (omega (arith, ints, clamps));
      small = omega (arith, ints, clamps, c.line_at.ensures.small, c.line_at-2.ensures.small);
    }
