-- What a sound book gives to a run that begins with it: its pages ascend and are within their limits, its names have
-- indices of their own and stay, and its salts have their size.
use Rattle.std.proofs.Common.{◌≡◌, ℕ, suc, ◌+◌, ◌<◌, List, [], ◌∷◌, ◌++◌, length, get_or, All, AllPairs, Contains, IsSome, ap, subst, inl, inr, ◌⊎◌, arith}
use Rattle.std.specs.Bool.{⊤}
use Rattle.std.specs.Prelude.{is_some}
use Rattle.std.specs.List.{AllAdjacentBelow, AllByRecursion}
use Rattle.std.proofs.lemmas.List.Elements.{All-contains_itself, All-weaker, recursion_from_All}
use Rattle.encoding.specs.Bytes.{Is32Bytes}
use Rattle.commands.specs.Operations.{Operation}
use Rattle.book.specs.Books.{Binding, Book, Page, pages}
use Rattle.book.specs.Honest.{IsMentioned}
use Rattle.encoding.specs.Maps.{Map, at}
use Rattle.book.specs.Shows.{Provider, index_of}
use Rattle.book.specs.Sound.{AreBindings, HasNamesOf, HoldsName, IsSound}
use Rattle.book.proofs.Distinct.{AreApart, HasName, IsApart, entry-named}
use Rattle.book.proofs.Found.{IsPage}
use Rattle.book.proofs.Found as limited
use Rattle.book.proofs.Sealing.{Climb}
use Rattle.book.proofs.Soundness.{IsBefore}
use Rattle.book.proofs.Turning as turning
use Rattle.book.proofs.Users.{AreNamed, IsNamed}

climb-of : (epoch : ℕ) (pages : List Page) → AllPairs IsBefore pages → AllByRecursion (λ page. epoch < page.epoch) pages → Climb epoch pages
climb-of epoch [] ascend above = tt
climb-of epoch (page ∷ pages) ascend above = (
  above.0,
  climb-of page.epoch pages (λ i j d less within. ascend (suc i) (suc j) d (omega (arith, less)) (omega (arith, within)))
      (recursion_from_All (λ (other : Page). page.epoch < other.epoch) pages (λ k d within. ascend 0 (suc k) d (omega arith) (omega (arith, within)))),
)

-- each page's names are those of the last
to-last : (earlier : List Page) (last : Page) → AllAdjacentBelow HasNamesOf (earlier ++ last ∷ []) (length (earlier ++ last ∷ [])) → AllByRecursion (λ page. HasNamesOf page last) (earlier ++ last ∷ [])
to-last [] last stay = (λ name has. has, tt)
to-last (page ∷ []) last stay = (λ name has. stay 0 page (omega arith) name has, ((λ name has. has), tt))
to-last (page ∷ next ∷ earlier) last stay =
    let more = to-last (next ∷ earlier) last (λ k d within.
    let e : suc k + 1 ≡ suc (k + 1) = omega arith in
    subst (λ (m : ℕ). HasNamesOf (get_or (next ∷ earlier ++ last ∷ []) k d) (get_or (page ∷ next ∷ earlier ++ last ∷ []) m d)) e (stay (suc k) d (omega (arith, within)))) in
    ((λ name has. more.0 name (stay 0 page (omega arith) name has)), more)

has-some : (map : Map Binding) (name : List ℕ) → HasName map name → IsSome (at map name)
has-some map name has = ap is_some has.1

within-limits : (map : Map Binding) → AreBindings map → limited.AreBindings map
within-limits map are = recursion_from_All _ map (λ k d within. ((are.entries k d within).name, (are.entries k d within).key))

module _ (index_of : List ℕ → List ℕ) (book : Book) (sound : IsSound index_of book) where
  pub climbs : turning.IsSound book
  climbs = record {
    climb = climb-of 0 (pages book) sound.ascend (recursion_from_All (λ (page : Page). 0 < page.epoch) (pages book) (λ k d within. (sound.pages k d within).epoch.0));
    pages = recursion_from_All IsPage (pages book) (λ k d within. let page = sound.pages k d within in record {
      epoch = page.epoch.1;
      nonce = page.nonce;
      ascends = page.bindings.ascend;
      bindings = within-limits _ page.bindings;
    });
    ascends = sound.pending.ascend;
    pending = within-limits book.pending sound.pending;
  }

  pub has-salts : All (λ (page : Page). All (λ (entry : List ℕ × Binding). Is32Bytes entry.1.salt) page.bindings) (pages book)
  has-salts k page within = λ i entry below. ((sound.pages k page within).bindings.entries i entry below).salt

  last-has : AllByRecursion (λ page. HasNamesOf page book.last) (pages book)
  last-has = to-last book.earlier book.last sound.stay

  held-of : (name : List ℕ) → HasName book.last.bindings name ⊎ HasName book.pending name → HoldsName book name
  held-of name (inl has) = inl (has-some book.last.bindings name has)
  held-of name (inr has) = inr (has-some book.pending name has)

-- of all pages, where something follows of those whose names the last one has
all-pages : (P : Page → Type 0) (last : Page) (some : List Page) → ((page : Page) → HasNamesOf page last → P page) → AllByRecursion (λ page. HasNamesOf page last) some → AllByRecursion P some
all-pages P last [] each are = tt
all-pages P last (page ∷ some) each are = (each page are.0, all-pages P last some each are.1)

module _ (provider : Provider) (book : Book) (sound : IsSound (index_of provider) book) where
  pub begins-apart : IsApart provider book
  begins-apart = record {
    now = λ one other a b same. sound.apart one other (held-of (index_of provider) book sound one a) (held-of (index_of provider) book sound other b) same;
    pages = all-pages (λ page. AreApart provider (HasName page.bindings)) book.last (pages book)
        (λ page stays one other a b same. sound.apart one other (inl (stays one (has-some page.bindings one a))) (inl (stays other (has-some page.bindings other b))) same)
        (last-has (index_of provider) book sound);
  }

  named-of : (P : List ℕ → Type 0) (map : Map Binding) → ((name : List ℕ) → HasName map name → P name) → AreNamed P map
  named-of P map each = recursion_from_All _ map (All-weaker (Contains map) (λ (entry : List ℕ × Binding). P entry.0 × ⊤) (λ entry there. (each entry.0 (entry-named map entry there), tt)) map (All-contains_itself map))

  -- each name of it is held
  pub begins-named : (commands : List Operation) → IsNamed (IsMentioned book commands) book
  begins-named commands = record {
    pages = all-pages (λ page. AreNamed (IsMentioned book commands) page.bindings) book.last (pages book)
        (λ page stays. named-of (IsMentioned book commands) page.bindings (λ name has. inl (inl (stays name (has-some page.bindings name has)))))
        (last-has (index_of provider) book sound);
    pending = named-of (IsMentioned book commands) book.pending (λ name has. inl (inr (has-some book.pending name has)));
  }
