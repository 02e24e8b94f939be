use Rattle.std.proofs.Common.{ℕ, List, Vec, Global, sym, subst, ◌∙◌}
use Rattle.std.specs.declared.rc.Rc.{Rc}
use Rattle.proofs.specs.Replies.{SpellsReply}
use Rattle.proofs.specs.Views.{key_stated}
use Rattle.client.specs.Agreements.{AreBeside}
use Rattle.client.specs.Clients.{Look}
use Rattle.client.specs.declared.looks.LookPlace.{LookPlace}
use Rattle.client.proofs.Groups.{from_of, more-gone, none-gone, Entries, IsIn}
use Rattle.client.proofs.Others.{all-are, all-state, does-not, items_of, spells, up-found, up-here, up-stops, AreAll}
use Rattle.client.proofs.looks.Looks.first_other_above.Goals as goal

pub loop-other-init : goal.loop-other-init
loop-other-init c =
    let entries = c.self.inside.replies.entries in (
      entries,
      subst (λ (looks : List Look). AreAll items_of looks entries) c.self.view_is (all-are items_of entries c.self.invariant c.range-other-items.ensures.ordered),
      none-gone _ (from_of c.args.place.now entries) _ (c.into_iter-other-iterator.ensures.into_iter_gives ∙ c.range-other-items.ensures.between tt),
    )

pub returns-then-not-is_beside : goal.returns-then-not-is_beside
returns-then-not-is_beside c =
    let inv = c.loop-other.invariant in
    let x : LookPlace × Rc (Vec ℕ Global) Global = (c.in-Some.other.now, c.in-Some.reply.now) in
    all-state items_of c.args.self.now c.args.place.now (key_stated c.args.told.now) c.requires.ones inv.0 inv.1 c.requires.below c.loop-other.other-iterator
    (up-stops items_of c.args.self.now c.args.place.now (key_stated c.args.told.now) c.requires.ones inv.0 inv.1 c.requires.below x c.next.new.self c.loop-other.other-iterator inv.2 c.in-Some.ensures.steps
    (λ beside. let yes = c.is_beside.ensures.1 beside in let no = c.if-not-is_beside.true in absurd cc))
    inv.2

pub states-requires : goal.states-requires
states-requires c =
    let inv = c.loop-other.invariant in
    let x : LookPlace × Rc (Vec ℕ Global) Global = (c.in-Some.other.now, c.in-Some.reply.now) in
    let here = up-here items_of c.args.self.now c.args.place.now (key_stated c.args.told.now) c.requires.ones inv.0 inv.1 c.requires.below x c.next.new.self c.loop-other.other-iterator inv.2 c.in-Some.ensures.steps in
    rw c.bytes.ensures (spells items_of c.args.self.now c.args.place.now (key_stated c.args.told.now) c.requires.ones inv.0 inv.1 x here)

pub returns-then-not-states : goal.returns-then-not-states
returns-then-not-states c =
    let inv = c.loop-other.invariant in
    let x : LookPlace × Rc (Vec ℕ Global) Global = (c.in-Some.other.now, c.in-Some.reply.now) in
    let here = up-here items_of c.args.self.now c.args.place.now (key_stated c.args.told.now) c.requires.ones inv.0 inv.1 c.requires.below x c.next.new.self c.loop-other.other-iterator inv.2 c.in-Some.ensures.steps in
    let other = does-not items_of c.args.self.now c.args.place.now (key_stated c.args.told.now) c.requires.ones inv.0 inv.1 x here (c.is_beside.ensures.0 c.if-not-is_beside.false) c.states.result c.if-not-states.true
    (λ read spelled. c.states.ensures read (subst (λ (bytes : List ℕ). SpellsReply bytes read) (sym c.bytes.ensures) spelled)) in
    rw c.bytes-then-not-states.ensures
    (up-found items_of c.args.self.now c.args.place.now (key_stated c.args.told.now) c.requires.ones inv.0 inv.1 c.requires.below x c.next.new.self c.loop-other.other-iterator inv.2 c.in-Some.ensures.steps (items_of x.1) other)

pub loop-other-preserved : goal.loop-other-preserved
loop-other-preserved c =
    let inv = c.loop-other.invariant in
    let x : LookPlace × Rc (Vec ℕ Global) Global = (c.in-Some.other.now, c.in-Some.reply.now) in (
      inv.0,
      inv.1,
      more-gone _ (from_of c.args.place.now inv.0) _ x c.next.new.self inv.2 c.in-Some.ensures.steps
          (λ read spelled. (c.states.ensures read (subst (λ (bytes : List ℕ). SpellsReply bytes read) (sym c.bytes.ensures) spelled)).0 c.if-not-states.false),
    )

pub returns : goal.returns
returns c =
    let inv = c.loop-other.invariant in
    all-state items_of c.args.self.now c.args.place.now (key_stated c.args.told.now) c.requires.ones inv.0 inv.1 c.requires.below c.loop-other.other-iterator
    (subst (λ (rest : Entries (Rc (Vec ℕ Global) Global)). (e : LookPlace × Rc (Vec ℕ Global) Global) → IsIn rest e → ¬ AreBeside c.args.place.now e.0) (sym c.in-None.ensures.steps.0) (λ e is. absurd is)) inv.2
