use Rattle.std.proofs.Common.{rules, ◌≡◌, ◌∙◌, ◌+◌, List, OnOk, ap, subst, sym}
use Rattle.rootchain.specs.Chains.{IsHead, KeyedRoots}
use Rattle.rootchain.specs.RootLists.{SpellsRoots}
use Rattle.commands.specs.Operations.{History}
use Rattle.wire.specs.Requests.{Query}
use Rattle.hub.specs.Desks.{reply_frame}
use Rattle.play.specs.Parties.{AreBehind, Parties}
use Rattle.play.specs.Played.{Stand}
use Rattle.play.specs.Taking.{AllTake}
use Rattle.play.proofs.Behind.{keys-kept, looks-kept, next-list, offered, on-ok, taken-list, IsNextList}
use Rattle.play.proofs.engine.Engine.take_list.Given.{Over}
use Rattle.play.proofs.engine.Engine.take_list.Goals.{After-body_of, After-drop-reply}
use Rattle.play.proofs.engine.Engine.take_list.Goals as goal

at_head : (g : Over) (c : After-body_of g) → IsHead c.args.self.now.client.chain c.head.result.now
at_head g c = subst (λ (chain : KeyedRoots). IsHead chain c.head.result.now) (c.chain.ensures.value ∙ ap (λ (p : Parties g.row.R.Denot). p.client.chain) c.self.view_is) c.head.ensures.head

above : (g : Over) (c : After-body_of g) → c.in-Some.from ≡ c.head.result.now.body.epoch + 1
above g c = search rules

body : (g : Over) (c : After-body_of g) → c.body_of.result.now ≡ (reply_frame c.in_ok-reply.ensures.said).body
body g c = c.body_of.ensures (reply_frame c.in_ok-reply.ensures.said) c.in_ok-reply.ensures.read.0 (c.deref.ensures.value ∙ c.in_ok-reply.ensures.frame)

-- the roots of the list
abbrev next : (g : Over) (c : After-body_of g) (stand : Stand) (behind : AreBehind g.H.NodeHash.digest_of g.V.Vuf.value_of g.S.Signer.signature_of g.R.Rng.stream g.V.VufCheck.accepted g.S.Verifier.verified c.args.self.now stand)
    → IsNextList g.H.NodeHash.digest_of g.V.Vuf.value_of g.S.Signer.signature_of g.R.Rng.stream g.V.VufCheck.accepted g.S.Verifier.verified c.args.self.now c.ask.new.self stand (reply_frame c.in_ok-reply.ensures.said).body behind
next g c stand behind =
    next-list g.H.NodeHash.digest_of g.V.Vuf.value_of g.S.Signer.signature_of g.R.Rng.stream g.V.VufCheck.accepted g.S.Verifier.verified c.args.self.now c.ask.new.self c.in-Some.from
    c.in_ok-reply.reply.items c.in_ok-reply.ensures stand behind c.head.result.now (at_head g c) (above g c)

-- all took them
taken : (g : Over) (c : After-drop-reply g) (stand : Stand) (behind : AreBehind g.H.NodeHash.digest_of g.V.Vuf.value_of g.S.Signer.signature_of g.R.Rng.stream g.V.VufCheck.accepted g.S.Verifier.verified c.args.self.now stand)
    → OnOk c.hand_list.result (AllTake g.H.NodeHash.digest_of g.S.Verifier.verified (next g (goal.at.returns-clause-behind g c).After-body_of stand behind).items c.ask.new.self c.hand_list.new.self)
taken g c stand behind =
    let a = (goal.at.returns-clause-behind g c).After-body_of in
    c.hand_list.ensures (next g a stand behind).items (subst (λ (bytes : List _). SpellsRoots bytes (next g a stand behind).items) (sym (body g a)) (next g a stand behind).spelled)

pub hand_list-requires : goal.hand_list-requires
hand_list-requires g c = record {
  offered = offered g.H.NodeHash.digest_of g.V.Vuf.value_of g.S.Signer.signature_of g.R.Rng.stream g.V.VufCheck.accepted g.S.Verifier.verified c.args.self.now c.ask.new.self c.in-Some.from
      c.in_ok-reply.reply.items c.in_ok-reply.ensures c.requires.behind.0 c.requires.behind.1 c.head.result.now (at_head g c) (above g c) c.body_of.result.now (body g c);
}

pub returns-clause-behind : goal.returns-clause-behind
returns-clause-behind g c stand behind =
    let a = (goal.at.returns-clause-behind g c).After-body_of in
    on-ok c.hand_list.result
    (taken-list g.H.NodeHash.digest_of g.V.Vuf.value_of g.S.Signer.signature_of g.R.Rng.stream g.V.VufCheck.accepted g.S.Verifier.verified c.args.self.now c.ask.new.self c.in-Some.from
    c.in_ok-reply.reply.items c.in_ok-reply.ensures stand behind c.head.result.now (at_head g a) (above g a) c.hand_list.new.self)
    (taken g c stand behind)

pub returns-clause-keys : goal.returns-clause-keys
returns-clause-keys g c =
    let a = (goal.at.returns-clause-keys g c).After-body_of in
    on-ok c.hand_list.result
    (keys-kept g.H.NodeHash.digest_of g.V.Vuf.value_of g.S.Signer.signature_of g.R.Rng.stream g.V.VufCheck.accepted g.S.Verifier.verified c.args.self.now c.ask.new.self c.hand_list.new.self
    (Query (History c.in-Some.from 64)) c.in_ok-reply.reply.items (next g a c.requires.behind.0 c.requires.behind.1).items c.in_ok-reply.ensures)
    (taken g c c.requires.behind.0 c.requires.behind.1)

pub returns-clause-looks : goal.returns-clause-looks
returns-clause-looks g c =
    let a = (goal.at.returns-clause-looks g c).After-body_of in
    on-ok c.hand_list.result
    (looks-kept g.H.NodeHash.digest_of g.V.Vuf.value_of g.S.Signer.signature_of g.R.Rng.stream g.V.VufCheck.accepted g.S.Verifier.verified c.args.self.now c.ask.new.self c.hand_list.new.self
    (Query (History c.in-Some.from 64)) c.in_ok-reply.reply.items (next g a c.requires.behind.0 c.requires.behind.1).items c.in_ok-reply.ensures)
    (taken g c c.requires.behind.0 c.requires.behind.1)
