-- What a `&` to a node holds, and what a clause sees of it.
use Rattle.std.specs.Prelude.{ℕ, List, Option, None, Some}
use mir.Syntax.{named}
use base.Fml.{Lft, Fml, ffalse}
use denote.Memory.{shared_of}
use denote.RawPtr.{Ptr, block_ptr, null_ptr}
use Rattle.boxcar.specs.Slot.{Named}
use Rattle.air_tape.specs.Tapes.{Where}
use Rattle.air_draft.specs.declared.step.Step.{Step}
use Rattle.p3_air.specs.declared.expressions.nodes.Head.{Head}
use Rattle.p3_air.specs.declared.expressions.nodes.Body.{Body}
use Rattle.p3_air.specs.contracts.expressions.nodes.Head as HeadRow
use Rattle.p3_air.specs.contracts.expressions.nodes.Body as BodyRow

-- the lifetime of a body is that of the `&`
abbrev pub linked : Option Body → Ptr → Lft → Fml
linked None (block_ptr b o) κ = shared_of HeadRow.the_row (record { receipt = None }) b o κ
linked (Some d) (block_ptr b o) κ = shared_of (BodyRow.the_row (record { mir = named 0; lft = κ })) d b o κ
linked None null_ptr κ = ffalse
linked (Some d) null_ptr κ = ffalse

abbrev pub head_of : Option Body → Head
head_of None = record { receipt = None }
head_of (Some d) = d.head

-- the tape that holds a node's step, and the step there with its number
pub record Known : Type 0 where
  pub tape : List Named
  pub at : Where Step

abbrev pub known_in : List Named → Option (Where Step) → Option Known
known_in tape None = None
known_in tape (Some p) = Some (record { tape = tape; at = p })

abbrev pub known : Option Body → Option Known
known None = None
known (Some d) = known_in d.expressions.now.steps d.head.receipt
