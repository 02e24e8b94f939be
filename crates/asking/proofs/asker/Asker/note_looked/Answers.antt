use Rattle.std.proofs.Common.{inl, inr, rules}
use Rattle.encoding.specs.Limits.{IsName}
use Rattle.asking.proofs.FinalsNoted.{looked, looked-more, looked-not}
use Rattle.asking.proofs.asker.Asker.note_looked.Goals as goal

pub returns-then-said-ne0-clause-notes : goal.returns-then-said-ne0-clause-notes
returns-then-said-ne0-clause-notes g c =
    looked-not g.H.NodeHash.digest_of g.V.VufCheck.accepted c.args.self.now.client c.args.name.now c.args.reply.now c.args.said.now.status c.args.self.now.finals c.args.said.now (inl c.if-said-ne0.true)

pub returns-in_default-clause-notes : goal.returns-in_default-clause-notes
returns-in_default-clause-notes g c =
    let none : ¬ IsName c.args.name.now = search rules in
    looked-not g.H.NodeHash.digest_of g.V.VufCheck.accepted c.args.self.now.client c.args.name.now c.args.reply.now c.args.said.now.status c.args.self.now.finals c.args.said.now (inr none)

pub returns-then-is_told-clause-notes : goal.returns-then-is_told-clause-notes
returns-then-is_told-clause-notes g c =
    let is : IsName c.args.name.now = search rules in
    looked g.H.NodeHash.digest_of g.V.VufCheck.accepted c.args.self.now.client c.in-Ok.name c.args.name.now c.args.reply.now c.args.said.now.status c.args.self.now.finals c.note.new.self.finals
    c.args.said.now c.note.new.said c.if-said-ne0.false is c.in-Ok.ensures.value c.in_ok-note.ensures.notes c.is_told.result c.is_told.ensures c.if-is_told.true

pub returns-clause-notes : goal.returns-clause-notes
returns-clause-notes g c =
    let is : IsName c.args.name.now = search rules in
    looked-more g.H.NodeHash.digest_of g.V.VufCheck.accepted c.args.self.now.client c.in-Ok.name c.args.name.now c.args.reply.now c.args.said.now.status c.args.self.now.finals c.note.new.self.finals
    c.args.said.now c.note.new.said c.if-said-ne0.false is c.in-Ok.ensures.value c.in_ok-note.ensures.notes c.is_told.result c.is_told.ensures
    c.tell_looks.result c.tell_looks.new.self.finals c.tell_looks.new.said c.if-is_told.false (rw c.note.ensures.client at c.tell_looks.ensures.tells)
