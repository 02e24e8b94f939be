-- The lines that a script prints.
use Rattle.std.specs.Prelude.{ℕ, ◌&&◌, Bool, if◌then◌else◌, List, [], ◌∷◌, ◌++◌, Option, Some, None, Ok, Err, codes, decimal, is_none}
use Rattle.std.specs.List.{flat_map}
use Rattle.hex.specs.Hex.{encode_lower}
use Rattle.encoding.specs.declared.bound_key.BoundKey.{BoundKey}
use Rattle.encoding.specs.Policies.{policy_word}
use Rattle.encoding.specs.declared.policy.Policy.{Policy}
use Rattle.book.specs.Steps.{Answer, Promised, Found, Told, Last, has_its_index}
use Rattle.book.specs.Books.{Book, Page}
use Rattle.book.specs.Honest.{key_at}
use Rattle.encoding.specs.Maps.{at}
use Rattle.play.specs.Messages as message

-- the epoch of the last of these pages, or 0 if there is none
abbrev pub last_epoch : List Page → ℕ
last_epoch [] = 0
last_epoch (page ∷ []) = page.epoch
last_epoch (page ∷ next ∷ more) = last_epoch (next ∷ more)

-- the root of the last page, and the epoch before it
abbrev pub root_text : Book → List ℕ
root_text book = codes "root " ++ decimal book.last.epoch ++ codes " after " ++ decimal (last_epoch book.earlier)

abbrev pub roots_text : List Page → List ℕ
roots_text pages = codes "roots" ++ flat_map (λ page. codes " " ++ decimal page.epoch) pages

-- an answer that nobody checks, by the book after it. A promise is over the root of the last page, and a
-- root is the last page's
abbrev pub answer_text : Book → Answer → List ℕ
answer_text book (Promised name binding) = codes "promise " ++ decimal book.last.epoch
answer_text book (Found page name found) = codes "proof " ++ decimal page.epoch
answer_text book (Told pages) = roots_text pages
answer_text book (Last page) = root_text book

-- ---- what is checked

-- the page lacks the name, and another of its names has the name's index
abbrev pub is_double : (List ℕ → List ℕ) → Page → List ℕ → Bool
is_double index_of page name = is_none (at page.bindings name) && has_its_index index_of name page.bindings

-- no proof of this is accepted
abbrev pub refused_proof : List ℕ
refused_proof = codes "client refuses proof 5"

-- a policy behind a key, if there is one
abbrev pub policy_text : Option Policy → List ℕ
policy_text None = []
policy_text (Some policy) = 32 ∷ policy_word policy

abbrev pub key_text : BoundKey → List ℕ
key_text key = encode_lower key.value ++ policy_text key.policy

-- what a client accepts of a name at an epoch: a key, or none
abbrev pub statement_text : ℕ → Option BoundKey → List ℕ
statement_text epoch None = codes "absent " ++ decimal epoch
statement_text epoch (Some key) = codes "present " ++ decimal epoch ++ codes " " ++ key_text key

-- what is found of a name in a page, as the client says it
abbrev pub found_text : (List ℕ → List ℕ) → Page → List ℕ → List ℕ
found_text index_of page name = if is_double index_of page name then refused_proof else statement_text page.epoch (key_at page name)

-- an answer to a line that asks: what is found, the client checks
abbrev pub checked_text : (List ℕ → List ℕ) → Book → Answer → List ℕ
checked_text index_of book (Promised name binding) = answer_text book (Promised name binding)
checked_text index_of book (Found page name found) = found_text index_of page name
checked_text index_of book (Told pages) = answer_text book (Told pages)
checked_text index_of book (Last page) = answer_text book (Last page)

-- ---- whole lines

-- an answer by such a text, or a refusal by its number
abbrev pub upshot_text : (Answer → List ℕ) → message.Upshot → List ℕ
upshot_text text (Ok answer) = text answer
upshot_text text (Err code) = codes "refused " ++ decimal code

-- in front of what a session is told stands its number
abbrev pub of_session : ℕ → List ℕ → List ℕ
of_session session text = decimal session ++ codes ": " ++ text

-- each of these with its LF
abbrev pub as_lines : List (List ℕ) → List ℕ
as_lines = flat_map (λ line. line ++ 10 ∷ [])
