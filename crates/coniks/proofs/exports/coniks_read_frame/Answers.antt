use Rattle.std.proofs.Common.{inl, inr, refl, rules}
use Rattle.encoding.specs.Bytes.{IsBytes}
use Rattle.wire.proofs.Splitting.{bad_begins, short_begins}
use Rattle.coniks.proofs.Framing.{begins-whole}
use Rattle.coniks.proofs.exports.coniks_read_frame.Goals as goal

pub returns-in-Whole : goal.returns-in-Whole
returns-in-Whole c = let are : IsBytes c.args.bytes.now = search rules in begins-whole c.args.bytes.now are c.in-Whole.view c.in-Whole.ensures c.args.parts.now

pub returns-in-Short : goal.returns-in-Short
returns-in-Short c = let are : IsBytes c.args.bytes.now = search rules in inr (inl (short_begins c.args.bytes.now are c.in-Short.ensures, refl, refl))

pub returns-in-Bad : goal.returns-in-Bad
returns-in-Bad c = let are : IsBytes c.args.bytes.now = search rules in inr (inr (bad_begins c.args.bytes.now are c.in-Bad.ensures, refl, refl))
