-- Whole objects: the members' reader answers exactly what they spell, or their first fault.
use Rattle.std.proofs.Common.{ℕ, ◌≡◌, ◌≢◌, ◌↔◌, Some, Result, Ok, Err, Vec, Global, refl, sym, ap, subst, ◌∙◌, inl, inr}
use Rattle.std.proofs.lemmas.Option.{same_Some}
use Rattle.serde_json.specs.Data.{Data}
use Rattle.air_core.specs.declared.errors.AirError.{AirError}
use Rattle.air_core.specs.declared.errors.AirError.TheVariants as air
use Rattle.air_field.specs.Modular.{Modular}
use Rattle.air_json.specs.Faults.{air_fault}
use Rattle.air_json.specs.laws.Readings.{done_is, not_done}
use Rattle.air_json.specs.Results.{Fails, Gives}
use Rattle.air_json.specs.declared.errors.FlatError.{FlatError}
use Rattle.air_json.specs.declared.errors.FlatError.TheVariants as faults
use Rattle.air_object.specs.Input.{SpellsInput, HasInputFault, fault_in, input_fault}
use Rattle.air_object.specs.declared.input.FlatInput.{FlatInput}
use Rattle.air_object.specs.Members.{Made, members}
use Rattle.air_object.specs.Parts.{ArePartsOf, given_elements, given_by}
use Rattle.air_object.specs.Readers.{members_read, members_with}
use Rattle.air_object.specs.Seen.{seen_made}
use Rattle.air_object.specs.declared.constraints.Constraints.{Constraints}
use Rattle.air_field.specs.declared.errors.MatrixError.{MatrixError}
use Rattle.air_json.specs.laws.Readings.{err_is}
use Rattle.air_object.specs.laws.Members.{members_agree}
use Rattle.air_object.proofs.PartLemmas.{parts_give}

module _ {F : Type 0} {order : ℕ} (modular : Modular F order) where
  pub member_fault : (d : Data) (f : FlatError) (e : AirError) → e ≡ air_fault f → Fails f (members_read modular d) → e ≢ air.Memory → HasInputFault modular d e
  member_fault d faults.Memory e is h n = absurd (n is)
  member_fault d faults.DegreeOverflow e is h n = inl (faults.DegreeOverflow, (members_agree modular).fault d _ h, is)
  member_fault d (faults.Shape place) e is h n = inl (faults.Shape place, (members_agree modular).fault d _ h, is)
  member_fault d faults.EmptyList e is h n = inl (faults.EmptyList, (members_agree modular).fault d _ h, is)
  member_fault d (faults.Operand place i) e is h n = inl (faults.Operand place i, (members_agree modular).fault d _ h, is)
  member_fault d (faults.WrongDegree place s k) e is h n = inl (faults.WrongDegree place s k, (members_agree modular).fault d _ h, is)
  member_fault d (faults.NotCanonical place) e is h n = inl (faults.NotCanonical place, (members_agree modular).fault d _ h, is)

  -- what is made of the parts of a value is what the value spells
  pub parts_spell : (d rest : Data) (es : Result (Vec F Global) FlatError) (c : Constraints F) → ArePartsOf modular d rest es c → (one other : Result (FlatInput F) MatrixError)
      → Gives seen_made (Ok one) (members_with modular (given_elements es) (given_by c) rest) → one ≡ other → (members modular).spells d (seen_made other)
  parts_spell d rest es c parts one other h same =
      subst (λ r. (members modular).spells d (seen_made r)) same ((members_agree modular).found d (seen_made one) (parts_give modular d rest es c parts seen_made (Ok one) h))

  -- ---- an object is read in one way

  pub one_value : (d : Data) (m n : Made F) → (members modular).spells d m → (members modular).spells d n → m ≡ n
  one_value d m n h k = done_is (λ v. m ≡ v) m n (sym ((members_agree modular).again d m h) ∙ (members_agree modular).again d n k) refl

  not_both : (d : Data) (m : Made F) (f : FlatError) → (members modular).spells d m → (members modular).fault d f → ⊥
  not_both d m f h k = not_done (λ _. ⊥) f m (sym ((members_agree modular).refused d f k) ∙ (members_agree modular).again d m h)

  one_member_fault : (d : Data) (f g : FlatError) → (members modular).fault d f → (members modular).fault d g → f ≡ g
  one_member_fault d f g h k = err_is f g (sym ((members_agree modular).refused d f h) ∙ (members_agree modular).refused d g k)

  pub no_fault : (d : Data) (input : FlatInput F) (e : AirError) → SpellsInput modular d input → HasInputFault modular d e → ⊥
  no_fault d input e s (inl h) = not_both d _ h.0 s.members h.1
  no_fault d input e s (inr h) = absurd (cc (one_value d _ _ s.members h.1))

  pub one_fault : (d : Data) (e f : AirError) → HasInputFault modular d e → HasInputFault modular d f → e ≡ f
  one_fault d e f (inl h) (inl k) = h.2 ∙ ap air_fault (one_member_fault d h.0 k.0 h.1 k.1) ∙ sym k.2
  one_fault d e f (inl h) (inr k) = absurd (not_both d _ h.0 k.1 h.1)
  one_fault d e f (inr h) (inl k) = absurd (not_both d _ k.0 h.1 k.1)
  one_fault d e f (inr h) (inr k) = cc (one_value d _ _ h.1 k.1, h.2, k.2)

  -- ---- the first fault is a function of the value

  fault_again : (d : Data) (e : AirError) → HasInputFault modular d e → input_fault modular d ≡ Some e
  fault_again d e (inl h) = ap fault_in ((members_agree modular).refused d h.0 h.1) ∙ ap (λ f. Some f) (sym h.2)
  fault_again d e (inr h) = ap fault_in ((members_agree modular).again d (Err h.0) h.1) ∙ ap (λ f. Some f) (sym h.2)

  fault_found : (d : Data) (e : AirError) (r : Result (Made F) FlatError) → members_read modular d ≡ r → fault_in r ≡ Some e → HasInputFault modular d e
  fault_found d e (Err f) is same = inl (f, (members_agree modular).fault d f is, sym (same_Some _ _ same))
  fault_found d e (Ok (Err f)) is same = inr (f, (members_agree modular).found d (Err f) is, sym (same_Some _ _ same))
  fault_found d e (Ok (Ok values)) is same = absurd cc

  pub first_fault : (d : Data) (e : AirError) → HasInputFault modular d e ↔ (input_fault modular d ≡ Some e)
  first_fault d e = (fault_again d e, fault_found d e (members_read modular d) refl)
