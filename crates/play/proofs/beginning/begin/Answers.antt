use Rattle.std.proofs.Common.{◌≡◌, List, ℕ, [], ◌∷◌, ap, subst, ◌∙◌, replicate}
use Rattle.std.proofs.lemmas.Result.{IfOk-weaker}
use Rattle.rand_chacha.specs.ChaCha.{ChaCha}
use Rattle.nodehash.specs.Sha256.{sha256}
use Rattle.vrfiface.specs.StandIns.{keyed_value, KeyedAccepts}
use Rattle.sigiface.specs.StandIn.{keyed_signature, KeyedVerifies}
use Rattle.wire.specs.Streams.{Rest}
use Rattle.book.specs.Books.{Book}
use Rattle.book.specs.Shows.{index_of}
use Rattle.book.specs.Salts.{chacha_salts}
use Rattle.epochs.specs.DirectoryStates.{book, provider, DirectoryState}
use Rattle.play.specs.Beginnings.{script_index, script_salts}
use Rattle.play.specs.Parties.{AreAt, Parties}
use Rattle.play.specs.Played.{opening}
use Rattle.play.proofs.beginning.begin.Goals as goal

pub open-requires-clause-fresh : goal.open-requires-clause-fresh
open-requires-clause-fresh c = (1, replicate 32 0, script_salts, c.in_ok-first_directory.ensures.page)

pub returns-clause-at : goal.returns-clause-at
returns-clause-at c =
    let first = c.in_ok-first_directory.ensures in
    let begun = λ (b : Book) (engine : Parties ChaCha). AreAt sha256 keyed_value keyed_signature chacha_salts KeyedAccepts KeyedVerifies engine (record { book = b; sessions = (0, Rest []) ∷ []; watchers = [] }) in
    IfOk-weaker c.open.result (begun (book chacha_salts c.in_ok-first_directory.field-0)) (λ engine. AreAt sha256 keyed_value keyed_signature chacha_salts KeyedAccepts KeyedVerifies engine (opening script_salts))
    (λ engine at. subst (λ (b : Book). begun b engine) first.page at) c.open.ensures.at

pub returns-clause-index : goal.returns-clause-index
returns-clause-index c =
    let first = c.in_ok-first_directory.ensures in
    let index : List ℕ → List ℕ → List ℕ = λ key name. sha256 (keyed_value key name) in
    IfOk-weaker c.open.result (λ (engine : Parties ChaCha). engine.hub.service.directory ≡ c.in_ok-first_directory.field-0)
    (λ engine. index_of (provider sha256 keyed_value keyed_signature engine.hub.service.directory) ≡ script_index)
    (λ engine same. ap index (ap (λ (directory : DirectoryState ChaCha). directory.vuf_key) same ∙ first.values)) c.open.ensures.directory
