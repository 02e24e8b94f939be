use Rattle.sha2.specs.Sha256.{sha256}
use Rattle.coniks.proofs.Standing.{is-fork, is-link, is-nothing, is-skip}
use Rattle.coniks.proofs.exports.coniks_evidence.Goals as goal

pub returns-then-holds : goal.returns-then-holds
returns-then-holds c = is-fork sha256 c.args.one.now c.args.other.now c.in-Ok.one c.in-Ok-read.other c.in-Ok.ensures.exact c.in-Ok-read.ensures.exact c.copied.result c.copied-2.result c.copied.ensures c.copied-2.ensures c.holds.result c.holds.ensures c.if-holds.true

pub returns-then-holds-2 : goal.returns-then-holds-2
returns-then-holds-2 c = is-link sha256 c.args.one.now c.args.other.now c.in-Ok.one c.in-Ok-read.other c.in-Ok.ensures.exact c.in-Ok-read.ensures.exact c.copied.result c.copied-2.result c.copied.ensures c.copied-2.ensures c.holds.result c.holds.ensures c.copied-3.result c.copied-4.result c.copied-3.ensures c.copied-4.ensures c.holds-2.result c.holds-2.ensures c.if-holds-2.true

pub returns-then-holds-3 : goal.returns-then-holds-3
returns-then-holds-3 c = is-skip sha256 c.args.one.now c.args.other.now c.in-Ok.one c.in-Ok-read.other c.in-Ok.ensures.exact c.in-Ok-read.ensures.exact c.copied.result c.copied-2.result c.copied.ensures c.copied-2.ensures c.holds.result c.holds.ensures c.copied-3.result c.copied-4.result c.copied-3.ensures c.copied-4.ensures c.holds-2.result c.holds-2.ensures c.holds-3.result c.holds-3.ensures c.if-holds-3.true

pub returns-else-holds-3 : goal.returns-else-holds-3
returns-else-holds-3 c = is-nothing sha256 c.args.one.now c.args.other.now c.in-Ok.one c.in-Ok-read.other c.in-Ok.ensures.exact c.in-Ok-read.ensures.exact c.copied.result c.copied-2.result c.copied.ensures c.copied-2.ensures c.holds.result c.holds.ensures c.copied-3.result c.copied-4.result c.copied-3.ensures c.copied-4.ensures c.holds-2.result c.holds-2.ensures c.holds-3.result c.holds-3.ensures c.if-holds.false c.if-holds-2.false c.if-holds-3.false
