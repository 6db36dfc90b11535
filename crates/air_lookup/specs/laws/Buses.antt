-- The entries of a bus sum to its exposed value.
use Rattle.std.specs.Prelude.{◌≡◌, ◌↔◌, List, [], ◌∷◌, Bool, true, refl}
use Rattle.std.proofs.Common.{subst, sym}
use Rattle.air_field.specs.Domain.{IsDomain}
use Rattle.air_field.specs.Ring.{CommRing, AlgebraOver, AlgebraOverLaws}
use Rattle.air_field.specs.laws.Distinct.{AtMost-weaker}
use Rattle.air_report.specs.Instances.{row_count}
use Rattle.air_lookup.specs.Balance.{SumsTo, Balances}
use Rattle.air_lookup.specs.Buses.{Bus, AreBuses, bus_entries, all_bus_entries, bus_terms, exposed_of, ExposeSum, BusesAreExposed, FewBusesPass}
use Rattle.air_lookup.specs.Theorem.{challenge_of}
use Rattle.air_lookup.specs.laws.Balance.{few_balance}
use Rattle.air_lookup.specs.laws.Columns.{sums_joined, rows_exposed}
use Rattle.air_lookup.specs.laws.Traces.{leaves, part_vanishes, are_rows, below_entries}

module _ {F E : Type 0} (r : CommRing F) (a : AlgebraOver F E) (eq : F → F → Bool) (ext_eq : E → E → Bool) (decides : (x y : E) → (ext_eq x y ≡ true) ↔ (x ≡ y))
    (laws : AlgebraOverLaws r a) where
  pub buses_are_exposed : BusesAreExposed r a eq ext_eq
  buses_are_exposed b is q lists =
      let g = b.trace in
      let p = b.places in
      let xs = b.interactions in
      let alpha = challenge_of a q p.challenge in
      subst (λ es. SumsTo a.ring alpha es (exposed_of a b q)) (below_entries r a laws g q xs is.base (row_count g))
      (rows_exposed r a laws.embed_zero p xs (row_count g) alpha (leaves r a g q) (are_rows r a laws g q p.challenge lists.height)
      b.exposed (exposed_of a b q) is.rows (λ i lt. refl) (part_vanishes r a eq ext_eq decides g q (bus_terms r p b.exposed xs) is.declared lists))

  -- the entries of all buses sum to the sum of the exposed values
  all_sum : (bs : List (Bus F)) → AreBuses r bs → (alpha s : E) → ExposeSum r a eq ext_eq bs alpha s → SumsTo a.ring alpha (all_bus_entries r a bs) s
  all_sum [] are alpha s h = record { shares = []; are_shares = tt; sum = sym h }
  all_sum (b ∷ bs) are alpha s (q, rest, lists, at, more, sum) =
      let own : SumsTo a.ring alpha (bus_entries r a b) (exposed_of a b q) =
      subst (λ x. SumsTo a.ring x (bus_entries r a b) (exposed_of a b q)) at (buses_are_exposed b are.0 q lists) in
      subst (SumsTo a.ring alpha (all_bus_entries r a (b ∷ bs))) (sym sum)
      (sums_joined a.ring alpha (bus_entries r a b) (all_bus_entries r a bs) (exposed_of a b q) rest own (all_sum bs are.1 alpha rest more))

  pub few_buses_pass : IsDomain a.ring → FewBusesPass r a eq ext_eq
  few_buses_pass domain bs are v other =
      AtMost-weaker {P = λ alpha. Balances a.ring alpha (all_bus_entries r a bs)} {Q = λ alpha. ExposeSum r a eq ext_eq bs alpha a.ring.zero}
      (λ alpha h. all_sum bs are alpha a.ring.zero h) (few_balance a.ring ext_eq v decides domain (all_bus_entries r a bs) other)
