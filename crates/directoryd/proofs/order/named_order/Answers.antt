use Rattle.std.proofs.Common.{rules, ◌≡◌, ◌∙◌, ap, codes, false, option_map, true}
use Rattle.std.specs.Str.{bytes_eq}
use Rattle.clap.specs.Words.{first_of, found_of, rows_of}
use Rattle.clap.proofs.WalkLemmas.{first_value-rows}
use Rattle.directoryd.specs.Orders.{the_questions, the_root, the_session}
use Rattle.directoryd.proofs.order.named_order.Goals as goal

pub returns-in_default : goal.returns-in_default
returns-in_default c =
    let prove : bytes_eq c.args.name.now (codes "prove") ≡ false = search rules in
    let audit : bytes_eq c.args.name.now (codes "audit") ≡ false = search rules in
    let judge : bytes_eq c.args.name.now (codes "judge") ≡ false = search rules in
    let play : bytes_eq c.args.name.now (codes "play") ≡ false = search rules in
    let serve : bytes_eq c.args.name.now (codes "serve") ≡ false = search rules in
    let listen : bytes_eq c.args.name.now (codes "listen") ≡ false = search rules in
    let ask : bytes_eq c.args.name.now (codes "ask") ≡ false = search rules in
    rw (prove, audit, judge, play, serve, listen, ask) (ap the_root c.root_order-in_default.ensures)

pub returns-in-serve : goal.returns-in-serve
returns-in-serve c =
    let prove : bytes_eq c.args.name.now (codes "prove") ≡ false = search rules in
    let audit : bytes_eq c.args.name.now (codes "audit") ≡ false = search rules in
    let judge : bytes_eq c.args.name.now (codes "judge") ≡ false = search rules in
    let play : bytes_eq c.args.name.now (codes "play") ≡ false = search rules in
    let serve : bytes_eq c.args.name.now (codes "serve") ≡ true = search rules in
    let found = found_of c.args.found.now in
    let keys : option_map (λ s. s.now) c.get_str.result ≡ first_of (codes "keys") (rows_of found) = c.get_str.ensures ∙ first_value-rows found (codes "keys") in
    rw (prove, audit, judge, play, serve) (λ i. the_session (c.directory_order.ensures i) (keys i))

pub returns-in-listen : goal.returns-in-listen
returns-in-listen c =
    let prove : bytes_eq c.args.name.now (codes "prove") ≡ false = search rules in
    let audit : bytes_eq c.args.name.now (codes "audit") ≡ false = search rules in
    let judge : bytes_eq c.args.name.now (codes "judge") ≡ false = search rules in
    let play : bytes_eq c.args.name.now (codes "play") ≡ false = search rules in
    let serve : bytes_eq c.args.name.now (codes "serve") ≡ false = search rules in
    let listen : bytes_eq c.args.name.now (codes "listen") ≡ true = search rules in
    rw (prove, audit, judge, play, serve, listen) c.listen_order.ensures

pub returns-in-ask : goal.returns-in-ask
returns-in-ask c =
    let prove : bytes_eq c.args.name.now (codes "prove") ≡ false = search rules in
    let audit : bytes_eq c.args.name.now (codes "audit") ≡ false = search rules in
    let judge : bytes_eq c.args.name.now (codes "judge") ≡ false = search rules in
    let play : bytes_eq c.args.name.now (codes "play") ≡ false = search rules in
    let serve : bytes_eq c.args.name.now (codes "serve") ≡ false = search rules in
    let listen : bytes_eq c.args.name.now (codes "listen") ≡ false = search rules in
    let ask : bytes_eq c.args.name.now (codes "ask") ≡ true = search rules in
    rw (prove, audit, judge, play, serve, listen, ask) (λ i. the_questions (c.ask_order.ensures i) (c.ask_texts.ensures i))
