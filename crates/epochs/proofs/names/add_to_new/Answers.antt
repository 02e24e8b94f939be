use Rattle.std.proofs.Common.{rules, ◌≡◌, ◌∷◌, ap, sym, ◌∙◌, Some, None, []}
use Rattle.std.specs.HashMap.Entry.{map_with_value}
use Rattle.std.specs.declared.collections.hash_map.Entry.TheVariants.{Occupied, Vacant}
use Rattle.book.specs.declared.directory_refusal.Refusal.{Refusal}
use Rattle.epochs.specs.Addresses.{named, with_history}
use Rattle.book.specs.Turns.{IsUnkept}
use Rattle.epochs.proofs.Hashed.{found_at}
use Rattle.epochs.proofs.Named.{added-new, added-there, named-put_at, versions-there}
use Rattle.epochs.proofs.names.add_to_new.Goals as goal

pub add-requires : goal.add-requires
add-requires g c =
    let es = c.args.histories.now.entries in
    let is : c.in_ok-from_slice.field-0.items ≡ c.args.name.now = c.in_ok-from_slice.ensures.items ∙ c.bytes-2.ensures.value in
    let found = found_at (λ key. key.items) c.args.name.now c.in_ok-from_slice.field-0 es (Some c.into_mut.result.now) is (sym (rw c.in-Occupied.is at c.in_ok-place.ensures.value) ∙ c.into_mut.ensures.value) in
    record { later = rw (versions-there (λ key. key.items) c.args.name.now es c.into_mut.result.now found) at c.requires.later }

pub returns-in-Occupied : goal.returns-in-Occupied
returns-in-Occupied g c =
    let es = c.args.histories.now.entries in
    let kept = g.K.Keeper.kept c.args.keeper.now c.args.what.now c.add.new.keeper in
    let unkept = λ (why : Refusal). IsUnkept g.K.Keeper.failed c.args.keeper.now c.args.what.now why c.add.new.keeper in
    let is : c.in_ok-from_slice.field-0.items ≡ c.args.name.now = c.in_ok-from_slice.ensures.items ∙ c.bytes-2.ensures.value in
    let found = found_at (λ key. key.items) c.args.name.now c.in_ok-from_slice.field-0 es (Some c.into_mut.result.now) is (sym (rw c.in-Occupied.is at c.in_ok-place.ensures.value) ∙ c.into_mut.ensures.value) in
    let set = map_with_value (Occupied c.in-Occupied.place) c.add.new.self in
    added-there kept unkept c.args.name.now c.args.address.now c.args.version (λ key. key.items) c.add.result es set.entries _ c.into_mut.result.now c.add.new.self
    found (search rules) (named-put_at (λ key. key.items) c.args.name.now c.in_ok-from_slice.field-0 c.add.new.self c.args.histories.now set is ((rw c.in-Occupied.is at c.in_ok-place.ensures.update).0 c.add.new.self)) c.add.ensures

pub returns-in-Ok : goal.returns-in-Ok
returns-in-Ok g c =
    let es = c.args.histories.now.entries in
    let is : c.in_ok-from_slice.field-0.items ≡ c.args.name.now = c.in_ok-from_slice.ensures.items ∙ c.bytes-2.ensures.value in
    let none = found_at (λ key. key.items) c.args.name.now c.in_ok-from_slice.field-0 es None is (rw c.in-Vacant.is at c.in_ok-place.ensures.found) in
    let same : c.insert.result.now ≡ record { address = c.args.address.now; versions = c.args.version ∷ [] } =
    c.insert.ensures.value ∙ rw (c.push_reserved.ensures.items, c.in_ok-versions.ensures.items, c.in_ok-value.ensures.items, c.bytes.ensures.value) at c.new-history.ensures in
    let set = map_with_value (Vacant c.in-Vacant.place) c.insert.result.now in (
      search rules,
      added-new c.args.name.now c.args.address.now c.args.version (λ key. key.items) es set.entries _ none (search rules)
          (named-put_at (λ key. key.items) c.args.name.now c.in_ok-from_slice.field-0 c.insert.result.now c.args.histories.now set is ((rw c.in-Vacant.is at c.in_ok-place.ensures.update).0 c.insert.result.now) ∙ ap (with_history (named (λ key. key.items) es) c.args.name.now) same),
    )
