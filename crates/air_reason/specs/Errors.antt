-- What the errors of an audit say, in the words of the library.
use Rattle.std.specs.Prelude.{ℕ, List, ◌++◌, codes, decimal}
use Rattle.air_core.specs.Boundary.{end_text}
use Rattle.air_core.specs.declared.boundary.BoundaryIoError.{BoundaryIoError}
use Rattle.air_core.specs.declared.boundary.BoundaryIoError.TheVariants as cells
use Rattle.air_core.specs.declared.errors.AirError.{AirError}
use Rattle.air_core.specs.declared.errors.AirError.TheVariants as air
use Rattle.air_core.specs.declared.variables.entry.BaseEntry.{BaseEntry}
use Rattle.air_core.specs.declared.variables.entry.BaseEntry.TheVariants as entries
use Rattle.air_core.specs.declared.variables.ext_entry.ExtEntry.{ExtEntry}
use Rattle.air_core.specs.declared.variables.ext_entry.ExtEntry.TheVariants as ext

abbrev pub entry_text : BaseEntry → List ℕ
entry_text (entries.Preprocessed offset) = codes "Preprocessed { offset: " ++ (decimal offset ++ codes " }")
entry_text (entries.Main offset) = codes "Main { offset: " ++ (decimal offset ++ codes " }")
entry_text entries.Periodic = codes "Periodic"
entry_text entries.Public = codes "Public"

abbrev pub ext_entry_text : ExtEntry → List ℕ
ext_entry_text (ext.Permutation offset) = codes "Permutation { offset: " ++ (decimal offset ++ codes " }")
ext_entry_text ext.Challenge = codes "Challenge"
ext_entry_text ext.PermutationValue = codes "PermutationValue"

abbrev pub cell_error_text : BoundaryIoError → List ℕ
cell_error_text (cells.ColumnOutOfRange column width) = codes "boundary-IO column " ++ (decimal column ++ (codes " is out of range for main width " ++ decimal width))
cell_error_text (cells.PublicValueOutOfRange index num_public_values) = codes "boundary-IO public value " ++ (decimal index ++ (codes " is out of range for " ++ (decimal num_public_values ++ codes " public values")))
cell_error_text (cells.DuplicateCell column end) = codes "boundary-IO declares column " ++ (decimal column ++ (codes " twice on the " ++ (end_text end ++ codes " row")))

-- the text of the error
unfoldable pub error_text : AirError → List ℕ
error_text air.Memory = codes "memory was refused"
error_text air.DegreeOverflow = codes "a degree passes the greatest count"
error_text air.CountOverflow = codes "the count of constraints passes the greatest count"
error_text (air.MissingEntry entry index) = codes "entry " ++ (entry_text entry ++ (codes " has no index " ++ decimal index))
error_text (air.RowOffset offset) = codes "a window has no row " ++ decimal offset
error_text (air.MissingExtEntry entry index) = codes "entry " ++ (ext_entry_text entry ++ (codes " has no index " ++ decimal index))
error_text air.NoPermutation = codes "the builder has no permutation data"
error_text (air.LayoutMainWidth layout own) = codes "the layout has main width " ++ (decimal layout ++ (codes ", the AIR " ++ decimal own))
error_text (air.LayoutPublicValues layout own) = codes "the layout has " ++ (decimal layout ++ (codes " public values, the AIR " ++ decimal own))
error_text (air.LayoutPeriodicColumns layout own) = codes "the layout has " ++ (decimal layout ++ (codes " periodic columns, the AIR " ++ decimal own))
error_text air.ForeignExpression = codes "an expression of other constraints is used"
error_text (air.IndexPastTotal index total) = codes "constraint index " ++ (decimal index ++ (codes " is past the total of " ++ decimal total))
error_text (air.PreprocessedHeight preprocessed main) = codes "the preprocessed table has " ++ (decimal preprocessed ++ (codes " rows, the trace " ++ decimal main))
error_text (air.PermutationHeight permutation main) = codes "the permutation trace has " ++ (decimal permutation ++ (codes " rows, the trace " ++ decimal main))
error_text (air.PeriodNotPowerOfTwo index length) = codes "periodic column " ++ (decimal index ++ (codes " has length " ++ (decimal length ++ codes ", no power of two")))
error_text (air.PeriodDoesNotDivide index length height) = codes "periodic column " ++ (decimal index ++ (codes " has length " ++ (decimal length ++ (codes ", which doesn't divide the height " ++ decimal height))))
error_text (air.Boundary error) = cell_error_text error
error_text air.EmptyTrace = codes "a boundary cell is listed, and the trace has no rows"
error_text (air.Ragged len width) = decimal len ++ (codes " values are no whole rows of width " ++ decimal width)
error_text (air.WindowShape len width) = decimal len ++ (codes " values are no two rows of width " ++ decimal width)
error_text (air.EmptyPeriodicColumn index) = codes "periodic column " ++ (decimal index ++ codes " is empty")
error_text (air.Shape at) = codes "the value at place " ++ (decimal at ++ codes " hasn't its form")
error_text air.EmptyList = codes "the list of nodes is empty"
error_text (air.Operand at operand) = codes "the node at place " ++ (decimal at ++ (codes " has the operand " ++ (decimal operand ++ codes ", which doesn't stand before it")))
error_text (air.WrongDegree at stated found) = codes "the node at place " ++ (decimal at ++ (codes " states degree " ++ (decimal stated ++ (codes ", and has " ++ decimal found))))
error_text (air.NotCanonical at) = codes "the value at place " ++ (decimal at ++ codes " has a number at or past the modulus")
