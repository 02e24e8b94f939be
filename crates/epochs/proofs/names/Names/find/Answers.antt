use Rattle.std.proofs.Common.{◌∙◌}
use Rattle.epochs.proofs.Hashed.{lookup-bytes}
use Rattle.epochs.proofs.Named.{borrowed}
use Rattle.epochs.proofs.names.Names.find.Goals as goal

pub returns-clause-versions : goal.returns-clause-versions
returns-clause-versions c =
    rw (← c.self.view_is) (borrowed (λ history. history.versions) c.get.result _ c.get.ensures.value ∙ lookup-bytes (λ key. key.items) (λ history. history.versions) c.args.name.now c.self.inside.histories.entries)

pub returns-clause-address : goal.returns-clause-address
returns-clause-address c =
    rw (← c.self.view_is) (borrowed (λ history. history.address) c.get.result _ c.get.ensures.value ∙ lookup-bytes (λ key. key.items) (λ history. history.address) c.args.name.now c.self.inside.histories.entries)
