use Rattle.std.proofs.Common.{rules, ◌≡◌, ◌∙◌, true, false, ap, sym}
use Rattle.std.specs.HashMap.Entry.{map_with_value}
use Rattle.std.specs.Prelude.{is_some}
use Rattle.std.specs.declared.collections.hash_map.Entry.TheVariants.{Vacant}
use Rattle.epochs.proofs.Hashed.{put_in_order, some_in_order}
use Rattle.epochs.proofs.key_change.add_at.Goals as goal

pub unreachable-requires : goal.unreachable-requires
unreachable-requires g c =
    let found = (rw (c.in-Occupied.is, c.index-index.ensures) at c.in_ok-place.ensures.found).0 in
    let f : true ≡ false = sym found ∙ some_in_order c.args.history.now.address.index c.args.commitments.now.entries ∙ ap is_some c.requires.free in
    cc

pub returns-in-Ok : goal.returns-in-Ok
returns-in-Ok g c =
    let set = map_with_value (Vacant c.in-Vacant.place) c.insert.result.now in (
      c.in-Ok.ensures.0,
      c.index-index.ensures,
      c.in-Ok.ensures.1,
      put_in_order c.index-index.result c.insert.result.now c.args.commitment c.args.commitments.now set _ c.insert.ensures.value (search rules) ((rw c.in-Vacant.is at c.in_ok-place.ensures.update).0 c.insert.result.now),
    )
