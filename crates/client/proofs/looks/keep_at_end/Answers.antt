use Rattle.std.proofs.Common.{rules, ◌≡◌, Some, sym, ap, ◌∙◌}
use Rattle.std.specs.BTreeMap.{insert_entry}
use Rattle.std.specs.BTreeMap.Entry.{map_with_value, map_without_entry}
use Rattle.std.specs.declared.collections.btree_map.Entry.TheVariants.{Occupied}
use Rattle.client.proofs.Groups.{cmp_place}
use Rattle.client.proofs.Numbering.{comes-last-in, not-stored, numbered-in, numbered-still, one-number, taken-out, through}
use Rattle.client.proofs.Others.{items_of, look_of}
use Rattle.client.proofs.looks.keep_at_end.Goals as goal

pub unreachable-requires : goal.unreachable-requires
unreachable-requires c =
    not-stored (λ place. place.number) cmp_place c.args.place c.args.bytes (λ other same. one-number _ _ _ same) c.args.replies.now.entries c.requires.numbered c.requires.last
    ((rw c.in-Occupied.is at c.in_ok-room.ensures.found).0)

pub returns-in-Ok-clause-numbered : goal.returns-in-Ok-clause-numbered
returns-in-Ok-clause-numbered c =
    let set = map_with_value (Occupied c.insert_entry-kept.result) c.into_mut.result.now in
    let written = c.insert_entry-kept.ensures in
    let both : Some c.into_mut.result.now ≡ Some c.args.bytes = sym c.into_mut.ensures.value ∙ written.2 in
    let value : c.into_mut.result.now ≡ c.args.bytes = cc in
    let is = ap (λ map. map.entries) (written.4 c.into_mut.result.now) ∙ (rw c.in-Vacant.is at c.in_ok-room.ensures.update).1 c.into_mut.result.now ∙ ap (insert_entry cmp_place c.args.replies.now.entries c.args.place) value in
    numbered-in (λ place. place.number) cmp_place c.args.place c.args.bytes (λ other same. one-number _ _ _ same) c.args.replies.now.entries c.requires.numbered c.requires.last
    _ set.entries (search rules) is

pub returns-in-Ok-clause-ok : goal.returns-in-Ok-clause-ok
returns-in-Ok-clause-ok c =
    let set = map_with_value (Occupied c.insert_entry-kept.result) c.into_mut.result.now in
    let written = c.insert_entry-kept.ensures in
    let both : Some c.into_mut.result.now ≡ Some c.args.bytes = sym c.into_mut.ensures.value ∙ written.2 in
    let value : c.into_mut.result.now ≡ c.args.bytes = cc in
    let is = ap (λ map. map.entries) (written.4 c.into_mut.result.now) ∙ (rw c.in-Vacant.is at c.in_ok-room.ensures.update).1 c.into_mut.result.now ∙ ap (insert_entry cmp_place c.args.replies.now.entries c.args.place) value in
    comes-last-in (λ place. place.number) cmp_place c.args.place c.args.bytes (λ other same. one-number _ _ _ same) c.args.replies.now.entries c.requires.numbered c.requires.last
    (look_of items_of) c.replies-in-Ok-2-1.given.0.entries set.entries (search rules) is

pub returns-in-Err-clause-numbered : goal.returns-in-Err-clause-numbered
returns-in-Err-clause-numbered c =
    let is = c.insert_entry-kept.ensures.5 ∙ (rw c.in-Vacant.is at c.in_ok-room.ensures.removal).1 ∙ taken-out (λ place. place.number) cmp_place c.args.place c.args.bytes (λ other same. one-number _ _ _ same) c.args.replies.now.entries c.requires.numbered c.requires.last in
    numbered-still (λ place. place.number) cmp_place c.args.place c.args.bytes (λ other same. one-number _ _ _ same) c.args.replies.now.entries c.requires.numbered c.requires.last
    _ (map_without_entry (Occupied c.insert_entry-kept.result)).entries (search rules) is

pub returns-in-Err-clause-err : goal.returns-in-Err-clause-err
returns-in-Err-clause-err c =
    let is = c.insert_entry-kept.ensures.5 ∙ (rw c.in-Vacant.is at c.in_ok-room.ensures.removal).1 ∙ taken-out (λ place. place.number) cmp_place c.args.place c.args.bytes (λ other same. one-number _ _ _ same) c.args.replies.now.entries c.requires.numbered c.requires.last in
    through _ (map_without_entry (Occupied c.insert_entry-kept.result)).entries _ (search rules) is
