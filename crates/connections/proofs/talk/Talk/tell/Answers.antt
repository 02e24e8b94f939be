use Rattle.std.proofs.Common.{◌≡◌, ◌≢◌, [], Bool, false, true, rules, refl, inl, ap, ◌∙◌}
use Rattle.connections.specs.Fitting.{KeepsTalk}
use Rattle.connections.specs.Histories.{Telling, Course, stage}
use Rattle.connections.proofs.Closing.{faultless}
use Rattle.connections.proofs.Steps.{here_so, not_told, offered}
use Rattle.connections.proofs.talk.Talk.tell.Goals as goal

pub returns-then-not-is_synced-clause-tells : goal.returns-then-not-is_synced-clause-tells
returns-then-not-is_synced-clause-tells g c = λ idle acts knows telling here.
    let no : c.args.is_synced ≡ false = search rules in
    let some : c.args.self.now.output.items ≢ [] = search rules in
    let failed : stage acts ≡ Telling false = telling ∙ ap (λ (b : Bool). Telling b) no in
    (acts, inl refl, knows, here_so _ _ _ (λ (of : Course) (keeps : KeepsTalk c.args.self.now of). (keeps.fine.0, (faultless of keeps.fine, failed, not_told of _ _ _ _ some keeps))) here, tt)

pub returns-clause-tells : goal.returns-clause-tells
returns-clause-tells g c = λ idle acts knows telling here.
    let yes : c.args.is_synced ≡ true = search rules in
    let a = c.write.ensures.writes idle acts knows (telling ∙ ap (λ (b : Bool). Telling b) yes) here in
    (a.0, a.1, a.2, a.3, offered c.write.result acts a.0 c.args.place c.write.new.self.output.items a.4)
