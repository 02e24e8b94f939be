use Rattle.std.proofs.Common.{ℕ, List, [], Option, Vec, Global, inl, inr, refl, sym, subst, ◌∙◌}
use Rattle.std.specs.declared.rc.Rc.{Rc}
use Rattle.encoding.specs.declared.bound_key.BoundKey.{BoundKey}
use Rattle.proofs.specs.Replies.{SpellsReply}
use Rattle.client.specs.Agreements.{AllState, IsFirstOther}
use Rattle.client.specs.Clients.{Look}
use Rattle.client.specs.declared.looks.LookPlace.{LookPlace}
use Rattle.client.proofs.Groups.{Entries}
use Rattle.client.proofs.Others.{all-are, items_of, look_of, spelled-at, AreAll}
use Rattle.client.proofs.Unlikes.{answer, found_of, is-before, not-before, passed, taken, there, Found, IsLeastSoFar}
use Rattle.client.proofs.looks.Looks.first_unlike.Goals as goal

pub loop-place-init : goal.loop-place-init
loop-place-init c =
    let entries = c.self.inside.replies.entries in (
      entries,
      subst (λ (looks : List Look). AreAll items_of looks entries) c.self.view_is (all-are items_of entries c.self.invariant c.iter-place-items.ensures.ordered),
      record { done = []; parts = c.into_iter-place-iterator.ensures.into_iter_gives ∙ c.iter-place-items.ensures.rest; least = tt },
    )

pub loop-place-preserved-then-is_before : goal.loop-place-preserved-then-is_before
loop-place-preserved-then-is_before c =
    let inv = c.loop-place.invariant in
    let x : LookPlace × Rc (Vec ℕ Global) Global = (c.in-Some.place.now, c.in-Some.reply.now) in (
      inv.0,
      inv.1,
      passed items_of c.args.others.now inv.0 c.loop-place.place-iterator c.next.new.self x (found_of c.loop-place.found) inv.2 c.in-Some.ensures.steps
          (inr (is-before c.loop-place.found x.0.number (c.is_before.ensures.0 c.if-is_before.true))),
    )

pub statement-requires : goal.statement-requires
statement-requires c =
    let inv = c.loop-place.invariant in
    let x : LookPlace × Rc (Vec ℕ Global) Global = (c.in-Some.place.now, c.in-Some.reply.now) in
    let is-there = there items_of c.args.others.now inv.0 c.loop-place.place-iterator c.next.new.self x (found_of c.loop-place.found) inv.2 c.in-Some.ensures.steps in
    rw c.bytes.ensures (spelled-at c.args.self.now c.requires.ones x.0.number (look_of items_of x) (inv.1.seen x is-there))

pub loop-place-preserved-in_default : goal.loop-place-preserved-in_default
loop-place-preserved-in_default c =
    let inv = c.loop-place.invariant in
    let x : LookPlace × Rc (Vec ℕ Global) Global = (c.in-Some.place.now, c.in-Some.reply.now) in (
      inv.0,
      inv.1,
      passed items_of c.args.others.now inv.0 c.loop-place.place-iterator c.next.new.self x (found_of c.loop-place.found) inv.2 c.in-Some.ensures.steps
          (inl
          (λ read spelled.
          subst (λ (told : Option BoundKey). AllState c.args.others.now x.0.asked.name.items x.0.asked.epoch told)
          (c.statement.ensures read (subst (λ (bytes : List ℕ). SpellsReply bytes read) (sym c.bytes.ensures) spelled)) c.in_default.ensures)),
    )

pub loop-place-preserved : goal.loop-place-preserved
loop-place-preserved c =
    let inv = c.loop-place.invariant in
    let x : LookPlace × Rc (Vec ℕ Global) Global = (c.in-Some.place.now, c.in-Some.reply.now) in
    let found : Found = record { number = x.0.number; name = c.deref.result.now; one = c.bytes-in-loop-place.result.now; other = c.in-Some-first_other.other.now } in (
      inv.0,
      inv.1,
      taken items_of c.args.others.now inv.0 c.loop-place.place-iterator c.next.new.self x (found_of c.loop-place.found) inv.2 c.in-Some.ensures.steps found
          (record {
            number = refl;
            name = c.deref.ensures.value;
            one = c.bytes-in-loop-place.ensures;
            other = λ read spelled.
                subst (λ (told : Option BoundKey). IsFirstOther c.args.others.now x.0.asked.name.items x.0.asked.epoch told c.in-Some-first_other.other.now)
                (c.statement.ensures read (subst (λ (bytes : List ℕ). SpellsReply bytes read) (sym c.bytes.ensures) spelled)) c.in-Some-first_other.ensures;
          })
          (not-before c.loop-place.found x.0.number (λ is. let yes-it = c.is_before.ensures.1 is in let not-it = c.if-is_before.false in absurd cc)),
    )

pub returns : goal.returns
returns c =
    let inv = c.loop-place.invariant in
    answer items_of c.args.others.now c.args.self.now inv.0 inv.1 c.requires.ones c.loop-place.found
    (subst (λ (rest : Entries (Rc (Vec ℕ Global) Global)). IsLeastSoFar items_of c.args.others.now inv.0 rest (found_of c.loop-place.found)) c.in-None.ensures.steps.0 inv.2)
