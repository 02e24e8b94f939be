use Rattle.proofs.proofs.laws.unique_values_never_differ.Goals as goal

pub returns : goal.returns
returns g c first second answers =
    let two = answers.3 in
    two.differ (g.met.V.UniqueVuf.one_value first.reply.body.vuf_key first.name first.reply.value second.reply.value two.one two.two)
