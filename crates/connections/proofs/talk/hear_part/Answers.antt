use Rattle.std.proofs.Common.{◌≡◌, ◌≤◌, ◌∷◌, ◌++◌, List, ℕ, length, take, drop, arith, refl, sym, inl}
use Rattle.std.proofs.lemmas.Grind.{common_steps}
use Rattle.connections.specs.Histories.{Hears, On, Misses}
use Rattle.connections.proofs.Steps.{adds_none, adds_one, next_hear, next_miss, stays_one}
use Rattle.connections.proofs.talk.hear_part.Goals as goal

pub returns-in-Err : goal.returns-in-Err
returns-in-Err g c = (
  tt,
  λ since over idle start acts held hearing here.
      let err = c.in-Err.ensures.err in
      let input : List ℕ = c.args.bytes.now in
      let part : List ℕ = take err.0 input in
      let rest : List ℕ = drop err.0 input in
      let least : 1 ≤ err.0 = err.1 in
      let most : err.0 ≤ length input = err.2 in
      let some : 1 ≤ length part = grind (arith, common_steps) in
      let split : input ≡ part ++ rest = grind (arith, common_steps) in
      let next = next_miss idle acts c.args.place part rest input c.args.output.now.items since over c.in-Err.fault hearing some split c.requires.1 here in (
        On c.args.place (Misses part c.in-Err.fault) ∷ acts,
        stays_one c.args.place (Misses part c.in-Err.fault) acts,
        adds_one c.args.place (Misses part c.in-Err.fault) acts acts tt (adds_none acts),
        ((c.args.sessions.now, held.0, err.3), (next.0, held.1)),
        rw c.ending_of.ensures next.1,
        tt,
      ),
)

pub returns-in-Ok : goal.returns-in-Ok
returns-in-Ok g c = (
  (c.in-Ok.ensures.ok.0, c.in-Ok.ensures.ok.1),
  λ since over idle start acts held hearing here.
      let ok = c.in-Ok.ensures.ok in
      let input : List ℕ = c.args.bytes.now in
      let part : List ℕ = take c.in-Ok.count input in
      let rest : List ℕ = drop c.in-Ok.count input in
      let most : c.in-Ok.count ≤ length input = ok.1 in
      let least : 1 ≤ c.in-Ok.count = ok.0 in
      let some : 1 ≤ length part = grind (arith, common_steps) in
      let split : input ≡ part ++ rest = grind (arith, common_steps) in
      let next = next_hear idle acts c.args.place part rest ok.2 input c.args.output.now.items since over hearing some split c.requires.1 here in (
        On c.args.place (Hears part ok.2) ∷ acts,
        stays_one c.args.place (Hears part ok.2) acts,
        adds_one c.args.place (Hears part ok.2) acts acts tt (adds_none acts),
        ((c.args.sessions.now, held.0, ok.3), (next.0, held.1)),
        rw (sym {A = List ℕ} ok.4) at next.1,
        λ so. (inl (refl, refl), refl),
      ),
)
