-- What a `&` to a node holds can be had twice and at shorter lifetimes, as each part of it can, the body's reference too, which is at the lifetime of the `&`. No one owns a node, so there is no borrow to make a `&` of.
use mathlib.Core.List.{[], ◌∷◌}
use Prim.Native.Nat.{ℕ}
use base.Fraction.{full_share}
use base.Logic.{sep, wand, never_e}
use base.Fml.{fbor, fat}
use mir.Syntax.{named, ty_ptr}
use mir.Val.{vptr}
use types.Logic.{sem, lfts}
use types.Kit.{‵, raw, ◌⊛◌, later, ◌$◌, ◌∵◌, !, qed, move, use1, use2, split, await, updating, now, done, fsplit, fpick, keep}
use denote.Sharing.{ShrLaws, one, beside}
use denote.SharingLaws.{beside_shr_laws, one_shr_laws}
use denote.RattleType.{RattleType, RowLaws}
use denote.Ref.{ShrRef}
use denote.Memory.{part_at, part_of, shared_of}
use denote.Struct.Struct.{Struct-row_laws}
use denote.RawPtr.{block_ptr}
use Rattle.std.specs.Prelude.{Option, None, Some}
use Rattle.p3_air.specs.declared.expressions.nodes.Body.{Body}
use Rattle.p3_air.specs.HandleView.{linked}
use Rattle.p3_air.specs.contracts.expressions.view.Node as C
use Rattle.p3_air.specs.contracts.expressions.nodes.Expressions as Expressions
use Rattle.p3_air.specs.contracts.expressions.nodes.Head as Head
use Rattle.p3_air.proofs.expressions.nodes.Expressions.TheLaws.{the_row_laws as shared_laws}
use Rattle.p3_air.proofs.expressions.nodes.Head.TheLaws.{the_row_laws as head_laws}
use Rattle.p3_air.proofs.expressions.view.Node.TheLaw.Statement.{statement}

-- the reference at the lifetime of the `&`
abbrev Lent : RattleType
Lent = record (ShrRef (named 0) [] Expressions.the_row) { shr_at = λ x b o. beside (one (λ q. fat q ty_ptr b o (vptr x.ref_ptr.0 x.ref_ptr.1))) (shared_of Expressions.the_row x.now x.ref_ptr.0 x.ref_ptr.1) }

lent_laws : RowLaws Lent
lent_laws x b o = beside_shr_laws (one (λ q. fat q ty_ptr b o (vptr x.ref_ptr.0 x.ref_ptr.1))) (shared_of Expressions.the_row x.now x.ref_ptr.0 x.ref_ptr.1)
    (one_shr_laws (λ q. fat q ty_ptr b o (vptr x.ref_ptr.0 x.ref_ptr.1))) (shared_laws.shr_laws x.now x.ref_ptr.0 x.ref_ptr.1)

linked_laws : (l : Option Body) (b o : ℕ) → ShrLaws (linked l (block_ptr b o))
linked_laws None b o = head_laws.shr_laws (record { receipt = None }) b o
linked_laws (Some d) b o = Struct-row_laws (record { name = []; args = []; types = []; fields = Head.the_row ∷ Lent ∷ [] })
    (head_laws.shr_laws, (lent_laws, tt)) (d.head, (d.expressions, tt)) b o

pub shares : statement
unfolding part_of
shares = record {
  shr_laws = λ d b o. linked_laws d b o;
  shares = λ M 𝓤 𝓛 d κ ts b o inc sp. let P = part_at C.the_written full_share d b o in let G = sep 𝓤 (sem 𝓛 (linked d (block_ptr b o) κ)) (lfts 𝓛 ts) in
      qed 𝓛 (‵ (fbor κ P) ∷ raw (lfts 𝓛 ts) ∷ []) ∵ updating ! $ use2 𝓛 (later (‵ P ⊛ raw (wand 𝓤 (sem 𝓛 P) (𝓛.H.⇛ (sep 𝓤 (𝓛.A.bor κ P) (lfts 𝓛 ts)))))) (𝓛.more.bor_acc_by κ ts P sp) $ await ! tt $ split ! $
      fpick ! (λ vs. fsplit ! $ keep ! (1 ∷ []) $ use1 𝓛 (raw G) (never_e 𝓤 G) $ now ! $ done !);
}
