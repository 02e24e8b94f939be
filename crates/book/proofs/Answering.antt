-- Each look-up has a reply.
use Rattle.std.proofs.Common.{◌≡◌, ℕ, zero, suc, ◌<◌, List, [], ◌∷◌, length, get_or, refl, sym, ap, subst, arith}
use Rattle.encoding.specs.Bytes.{Is32Bytes}
use Rattle.prefixtree.specs.Paths.{agreeing, end_of, sibling, EndsAt, IsPath}
use Rattle.prefixtree.specs.Placement.{Items, IsPlacement}
use Rattle.prefixtree.specs.declared.path.End.{End}
use Rattle.prefixtree.proofs.Unique.{ends}
use Rattle.rootchain.specs.declared.body.Body.{Body}
use Rattle.proofs.specs.Replies.{reply_bytes}
use Rattle.book.specs.Books.{Page}
use Rattle.encoding.specs.Maps.{at}
use Rattle.book.specs.Shows.{Provider, index_of, placement, reply_end, IsReplyOf}
use Rattle.book.proofs.Placed.{is_placement}

-- what a function gives below a number
row : {X : Type 0} → (ℕ → X) → ℕ → List X
row f zero = []
row f (suc n) = f zero ∷ row (λ k. f (suc k)) n

length-row : {X : Type 0} (f : ℕ → X) (n : ℕ) → length (row f n) ≡ n
unfolding row
length-row f zero = refl
length-row f (suc n) = ap (λ (m : ℕ). suc m) (length-row (λ k. f (suc k)) n)

get-row : {X : Type 0} (f : ℕ → X) (n k : ℕ) (d : X) → k < n → get_or (row f n) k d ≡ f k
unfolding row
get-row f zero k d p = absurd (omega arith)
get-row f (suc n) zero d p = refl
get-row f (suc n) (suc k) d p = get-row (λ j. f (suc j)) n k d (omega arith)

-- a path of an index
record HasPath (hash : List ℕ → List ℕ) (nonce : List ℕ) (items : Items) (index : List ℕ) : Type 0 where
  pub siblings : List (List ℕ)
  pub end : End
  pub path : IsPath hash nonce items index siblings end

has-path : (hash : List ℕ → List ℕ) (nonce : List ℕ) (items : Items) (index : List ℕ) → IsPlacement items → Is32Bytes index → HasPath hash nonce items index
has-path hash nonce items index placed sized =
    let e = ends index items placed sized in
    let long = length-row (sibling hash nonce items index) e.0 in
    record {
      siblings = row (sibling hash nonce items index) e.0;
      end = end_of index (agreeing index (length (row (sibling hash nonce items index) e.0)) items);
      path = record {
        level = subst (EndsAt index items) (sym long) e.2;
        beside = λ k p. get-row (sibling hash nonce items index) e.0 k [] (subst (λ (n : ℕ). k < n) long p);
        last = refl;
      };
    }

pub has-reply : (provider : Provider) → ((text : List ℕ) → Is32Bytes (provider.hash text)) → (page : Page) (body : Body) (name : List ℕ) → (text : List ℕ) × IsReplyOf provider page body name (at page.bindings name) text
has-reply provider size page body name =
    let p = has-path provider.hash page.nonce (placement provider page.bindings) (index_of provider name) (is_placement provider size page.bindings) (size (provider.value name)) in (
      reply_bytes (record { body = body; value = provider.value name; end = reply_end (index_of provider name) (at page.bindings name) p.end; siblings = p.siblings }),
      record { siblings = p.siblings; end = p.end; path = p.path; spelled = refl },
    )
