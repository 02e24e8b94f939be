use Rattle.std.proofs.Common.{◌∙◌, ℕ, Global, List, Option, Vec, option_map, subst}
use Rattle.std.specs.Prelude.{IfOk}
use Rattle.commands.specs.Operations.{Lookup}
use Rattle.wire.specs.Frames.{Frame}
use Rattle.wire.specs.Requests.{Query}
use Rattle.asking.specs.Exchanges.{ExchangesFrames}
use Rattle.asking.specs.Scenes.{GivesBody}
use Rattle.asking.proofs.asker.Asker.look_up.Goals as goal

pub returns-clause-gives : goal.returns-clause-gives
returns-clause-gives g c =
    subst (λ (name : List ℕ). IfOk c.ask_for.result (λ (body : Option (Vec ℕ Global)). (frame : Frame)
    × ExchangesFrames g.T.Write.contents g.T.Read.remaining c.args.stream.now (Query (Lookup name c.args.epoch)) frame c.ask_for.new.stream
    × GivesBody (Query (Lookup name c.args.epoch)) frame c.args.said.now (option_map (λ (bytes : Vec ℕ Global). bytes.items) body) c.ask_for.new.said))
    (c.in_ok-name.ensures.items ∙ c.bytes.ensures.value) c.ask_for.ensures.gives
