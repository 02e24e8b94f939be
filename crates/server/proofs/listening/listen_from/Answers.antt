use Rattle.server.proofs.listening.listen_from.Goals as goal

pub returns-then-order-clause-tells : goal.returns-then-order-clause-tells
returns-then-order-clause-tells g c = (c.in_ok-tell_address.ensures.tells.0, _, c.in_ok-tell_address.ensures.tells.1, c.answer_ordered.ensures tt)

pub returns-clause-tells : goal.returns-clause-tells
returns-clause-tells g c = (c.in_ok-tell_address.ensures.tells.0, _, c.in_ok-tell_address.ensures.tells.1, c.answer_ordered-2.ensures tt)
