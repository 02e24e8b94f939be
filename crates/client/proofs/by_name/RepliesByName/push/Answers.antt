use Rattle.std.proofs.Common.{rules, ◌≡◌, Some, None, ap, sym, ◌∙◌}
use Rattle.std.specs.Map.{lookup, set_value}
use Rattle.client.specs.Finality.{keyed}
use Rattle.client.proofs.ByNames.{at-keyed, is_named, set-keyed, set-more-if, set-same-if}
use Rattle.client.proofs.by_name.RepliesByName.push.Goals as goal

pub returns-in-Some-clause-ok : goal.returns-in-Some-clause-ok
returns-in-Some-clause-ok c =
    let es = c.self.inside.lists.entries in
    let set : (c.get_mut.follows.lender c.push.new.self).entries ≡ set_value (is_named (λ key. key.items) c.bytes.result.now) es c.push.new.self = search rules in
    let found : lookup (is_named (λ key. key.items) c.bytes.result.now) es ≡ Some c.in-Some.replies.now = search rules in
    let set-here = rw c.self.view_is at (ap (keyed (λ key. key.items)) (rw c.bytes.ensures.value at set) ∙ set-keyed (λ key. key.items) c.args.name.now es c.push.new.self) in
    let found-here = rw c.self.view_is at (sym (at-keyed (λ key. key.items) c.args.name.now es) ∙ rw c.bytes.ensures.value at found) in
    rw set-here (set-more-if c.args.self.now c.args.name.now c.in-Some.replies.now c.push.new.self found-here c.push.result c.args.reply c.push.ensures.ok)

pub returns-in-Some-clause-err : goal.returns-in-Some-clause-err
returns-in-Some-clause-err c =
    let es = c.self.inside.lists.entries in
    let set : (c.get_mut.follows.lender c.push.new.self).entries ≡ set_value (is_named (λ key. key.items) c.bytes.result.now) es c.push.new.self = search rules in
    let found : lookup (is_named (λ key. key.items) c.bytes.result.now) es ≡ Some c.in-Some.replies.now = search rules in
    let set-here = rw c.self.view_is at (ap (keyed (λ key. key.items)) (rw c.bytes.ensures.value at set) ∙ set-keyed (λ key. key.items) c.args.name.now es c.push.new.self) in
    let found-here = rw c.self.view_is at (sym (at-keyed (λ key. key.items) c.args.name.now es) ∙ rw c.bytes.ensures.value at found) in
    rw set-here (set-same-if c.args.self.now c.args.name.now c.in-Some.replies.now c.push.new.self found-here c.push.result c.push.ensures.err)

pub push_first-requires-clause-none : goal.push_first-requires-clause-none
push_first-requires-clause-none c =
    let none : lookup (is_named (λ key. key.items) c.bytes.result.now) (c.get_mut.follows.lender-at-none).entries ≡ None = search rules in
    sym (at-keyed (λ key. key.items) c.args.name.now (c.get_mut.follows.lender-at-none).entries) ∙ rw c.bytes.ensures.value at none
