-- `frames_read::digits::Digits::value` meets its contract: the entry of a byte is what it is given as.
use native.Mathlib.Omega.{arith}
use Rattle.frames_read.proofs.Takes.{entry-given, given-most}
use Rattle.frames_read.proofs.digits.Digits.value.Goals as goal

pub returns : goal.returns
returns c =
    let looked_up = entry-given _ _ (c.args.self.now.right c.args.byte (omega arith)) in
    record { given = looked_up; small = given-most looked_up }
