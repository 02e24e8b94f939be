use Rattle.std.proofs.Common.{ℕ, List, Vec, Global, sym, ap, subst, ◌∙◌}
use Rattle.std.specs.declared.rc.Rc.{Rc}
use Rattle.proofs.specs.Replies.{SpellsReply}
use Rattle.proofs.specs.Views.{key_stated}
use Rattle.client.specs.Agreements.{AreBeside}
use Rattle.client.specs.Clients.{Look}
use Rattle.client.specs.declared.looks.LookPlace.{LookPlace}
use Rattle.client.proofs.Groups.{Entries, IsIn}
use Rattle.client.proofs.Others.{all-are, answer-below, does-not, down-begun, down-found, down-here, down-stated, down-stops, items_of, spells, AreAll}
use Rattle.client.proofs.looks.Looks.first_other_below.Goals as goal

pub loop-other-init : goal.loop-other-init
loop-other-init c =
    let entries = c.self.inside.replies.entries in
    let all = subst (λ (looks : List Look). AreAll items_of looks entries) c.self.view_is (all-are items_of entries c.self.invariant c.range.ensures.ordered) in
    let rest = ap (λ r. r.iter) c.into_iter-other-iterator.ensures.into_iter_gives ∙ c.rev-other-items.ensures.source ∙ c.range.ensures.between tt in
    (entries, all, c.requires, down-begun items_of c.args.self.now c.args.place.now (key_stated c.args.told.now) c.requires entries all _ rest)

pub returns-then-not-is_beside : goal.returns-then-not-is_beside
returns-then-not-is_beside c =
    let inv = c.loop-other.invariant in
    let x : LookPlace × Rc (Vec ℕ Global) Global = (c.in-Some.other.now, c.in-Some.reply.now) in
    answer-below items_of c.args.self.now c.args.place.now (key_stated c.args.told.now) inv.2 inv.0 inv.1 c.loop-other.other-iterator.iter
    (down-stops items_of c.args.self.now c.args.place.now (key_stated c.args.told.now) inv.2 inv.0 inv.1 x c.next.new.self.iter c.loop-other.other-iterator.iter _ inv.3 c.in-Some.ensures.steps
    (λ beside. let yes = c.is_beside.ensures.1 beside in let no = c.if-not-is_beside.true in absurd cc))
    (λ reply. reply.now) c.loop-other.found inv.3

pub states-requires : goal.states-requires
states-requires c =
    let inv = c.loop-other.invariant in
    let x : LookPlace × Rc (Vec ℕ Global) Global = (c.in-Some.other.now, c.in-Some.reply.now) in
    let here = down-here items_of c.args.self.now c.args.place.now (key_stated c.args.told.now) inv.2 inv.0 inv.1 x c.next.new.self.iter c.loop-other.other-iterator.iter _ inv.3 c.in-Some.ensures.steps in
    rw c.bytes.ensures (spells items_of c.args.self.now c.args.place.now (key_stated c.args.told.now) inv.2 inv.0 inv.1 x here)

pub loop-other-preserved-then-not-states : goal.loop-other-preserved-then-not-states
loop-other-preserved-then-not-states c =
    let inv = c.loop-other.invariant in
    let x : LookPlace × Rc (Vec ℕ Global) Global = (c.in-Some.other.now, c.in-Some.reply.now) in
    let here = down-here items_of c.args.self.now c.args.place.now (key_stated c.args.told.now) inv.2 inv.0 inv.1 x c.next.new.self.iter c.loop-other.other-iterator.iter _ inv.3 c.in-Some.ensures.steps in
    let other = does-not items_of c.args.self.now c.args.place.now (key_stated c.args.told.now) inv.2 inv.0 inv.1 x here (c.is_beside.ensures.0 c.if-not-is_beside.false) c.states.result c.if-not-states.true
    (λ read spelled. c.states.ensures read (subst (λ (bytes : List ℕ). SpellsReply bytes read) (sym c.bytes.ensures) spelled)) in (
      inv.0,
      inv.1,
      inv.2,
      rw c.bytes-then-not-states.ensures
          (down-found items_of c.args.self.now c.args.place.now (key_stated c.args.told.now) inv.2 inv.0 inv.1 x c.next.new.self.iter c.loop-other.other-iterator.iter _ inv.3 c.in-Some.ensures.steps (items_of x.1) other),
    )

pub loop-other-preserved : goal.loop-other-preserved
loop-other-preserved c =
    let inv = c.loop-other.invariant in
    let x : LookPlace × Rc (Vec ℕ Global) Global = (c.in-Some.other.now, c.in-Some.reply.now) in (
      inv.0,
      inv.1,
      inv.2,
      down-stated items_of c.args.self.now c.args.place.now (key_stated c.args.told.now) inv.2 inv.0 inv.1 x c.next.new.self.iter c.loop-other.other-iterator.iter _ inv.3 c.in-Some.ensures.steps
          (λ read spelled. (c.states.ensures read (subst (λ (bytes : List ℕ). SpellsReply bytes read) (sym c.bytes.ensures) spelled)).0 c.if-not-states.false),
    )

pub returns : goal.returns
returns c =
    let inv = c.loop-other.invariant in
    answer-below items_of c.args.self.now c.args.place.now (key_stated c.args.told.now) inv.2 inv.0 inv.1 c.loop-other.other-iterator.iter
    (subst (λ (rest : Entries (Rc (Vec ℕ Global) Global)). (e : LookPlace × Rc (Vec ℕ Global) Global) → IsIn rest e → ¬ AreBeside c.args.place.now e.0) (sym c.in-None.ensures.steps.0) (λ e is. absurd is))
    (λ reply. reply.now) c.loop-other.found inv.3
