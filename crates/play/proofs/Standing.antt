-- After a query through session 0, all stand as before, but for the monitors.
use Rattle.std.proofs.Common.{◌≡◌, ℕ, List, sym, ap, ap₂, subst, ◌∙◌}
use Rattle.std.specs.List.{AllZip}
use Rattle.rand_core.specs.Stream.{Stream}
use Rattle.wire.specs.Requests.{RequestContent}
use Rattle.wire.specs.Streams.{Remainder}
use Rattle.book.specs.Shows.{Provider, keyed_provider, roots}
use Rattle.epochs.specs.DirectoryStates.{HasKeysOf}
use Rattle.hub.specs.Events.{at_session, BySession}
use Rattle.monitor.specs.Monitors.{Monitor}
use Rattle.play.specs.Parties.{book_of, provider_of, AreAt, HasAsked, HaveTaken, HoldBytes, IsWatcher, Parties}
use Rattle.play.specs.Played.{Stand}
use Rattle.play.specs.Watchers.{Watcher}

module _ {R : Type 0} (digest_of : List ℕ → List ℕ) (value_of signature_of : List ℕ → List ℕ → List ℕ) (stream : R → Stream) (accepted verified : List ℕ → List ℕ → List ℕ → Type 0)
    (before mid fin : Parties R) (stand : Stand) (requested : RequestContent) (frame : List ℕ) (monitors : List Monitor) (watchers : List Watcher)
    (all : AreAt digest_of value_of signature_of stream accepted verified before stand)
    (asked : HasAsked digest_of value_of signature_of stream accepted verified before requested frame mid)
    (ends : fin ≡ record mid { monitors = monitors }) where
  abbrev by : Provider
  by = provider_of digest_of value_of signature_of stream accepted verified before

  pub keys-stay : HasKeysOf before.hub.service.directory fin.hub.service.directory
  keys-stay = subst (λ (parties : Parties R). HasKeysOf before.hub.service.directory parties.hub.service.directory) (sym ends) asked.keys

  pub all-stand : book_of digest_of value_of signature_of stream accepted verified mid ≡ stand.book → AllZip (IsWatcher before.key (roots by stand.book) stand.book) monitors watchers
      → AreAt digest_of value_of signature_of stream accepted verified fin (record stand { watchers = watchers })
  all-stand stays are = subst (λ (parties : Parties R). AreAt digest_of value_of signature_of stream accepted verified parties (record stand { watchers = watchers })) (sym same) (record {
    hub = record {
      book = stays;
      sessions = asked.sessions ∙ all.hub.sessions;
      ready = record {
        idle = ap (λ (sessions : BySession Remainder). at_session sessions 0) asked.sessions ∙ all.hub.ready.idle;
        bytes = subst HoldBytes (sym asked.sessions) all.hub.ready.bytes;
        token = asked.token ∙ all.hub.ready.token;
        key = asked.keys.1 ∙ all.hub.ready.key;
      };
    };
    taken = subst (λ (p : Provider). HaveTaken digest_of value_of signature_of stream accepted verified parties (record stand { watchers = watchers }) (roots p stand.book)) (sym provider_is) (record {
      client = all.taken.client;
      auditor = all.taken.auditor;
      monitors = are;
    });
  })
    where
      parties : Parties R
      parties = record before { hub = mid.hub; monitors = monitors }

      same : fin ≡ parties
      same = ends ∙ ap (λ (m : Parties R). record m { monitors = monitors }) asked.others

      provider_is : provider_of digest_of value_of signature_of stream accepted verified parties ≡ by
      provider_is = ap₂ (λ (vuf_key key : List ℕ). keyed_provider digest_of value_of vuf_key signature_of key) asked.keys.0 asked.keys.1
