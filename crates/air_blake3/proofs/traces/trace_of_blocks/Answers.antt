use Rattle.std.proofs.lemmas.Result.{err_from_is_err_and}
use Rattle.std.proofs.Common.{◌≡◌, ◌*◌, ◌^◌, ◌<◌, ◌++◌, ◌∙◌, ℕ, List, [], length, map, Ok, Err, sym, ap, subst, lit<}
use Rattle.std.specs.List.{range_with_len}
use Rattle.std.specs.Int.{IsNextPowerOfTwo}
use Rattle.std.proofs.lemmas.List.FromFn.{length-map-range_with_len}
use Rattle.air_field.specs.Grid.{Grid}
use Rattle.air_field.specs.Matrix.{matrix_of}
use Rattle.air_field.specs.Ring.{CommRing}
use Rattle.air_field.specs.declared.errors.MatrixError.{MatrixError}
use Rattle.air_author.specs.Constraints.{asserts_of_first}
use Rattle.air_blake3.specs.Traces.{AreCompressionRows, HoldBlocks, block_for, block_in}
use Rattle.air_blake3.specs.Values.{IsCompressionRow, block_row}
use Rattle.air_blake3.specs.declared.blocks.InputBlock.{InputBlock}
use Rattle.air_blake3.proofs.Checked.{compression_rows_pass}
use Rattle.air_blake3.proofs.RowHolds.{block_row_holds, length-block_row}
use Rattle.air_blake3.proofs.WholeTraces.{each_listed, matrix_cut, row_listed}
use Rattle.air_blake3.proofs.traces.trace_of_blocks.Goals as goal

-- the values of a row
abbrev row_of : {F : Type 0} → CommRing F → List InputBlock → ℕ → List F
row_of R blocks i = block_row R (block_in (block_for blocks i))

-- the matrix of the rows' values
module _ {F : Type 0} (R : CommRing F) (blocks : List InputBlock) (h : ℕ) (values start : List F) (begun : start ≡ []) (pushed : values ≡ start ++ asserts_of_first (row_of R blocks) h) where
  matrix_is : matrix_of 9168 values ≡ Ok (record { width = 9168; rows = map (row_of R blocks) (range_with_len 0 h) })
  matrix_is =
      ap (matrix_of 9168) (pushed ∙ ap (λ xs. xs ++ asserts_of_first (row_of R blocks) h) begun)
      ∙ matrix_cut (row_of R blocks) 9168 (λ i. length-block_row R (block_in (block_for blocks i))) h (lit< tt)

  trace_is : (trace : Grid F) → matrix_of 9168 values ≡ Ok trace → trace ≡ record { width = 9168; rows = map (row_of R blocks) (range_with_len 0 h) }
  trace_is trace made = let is = matrix_is in cc

  not_refused : (e : MatrixError) → matrix_of 9168 values ≡ Err e → ⊥
  not_refused e refused = let is = matrix_is in cc

pub unreachable-requires : goal.unreachable-requires
unreachable-requires g c =
    not_refused g.F.Field.ring c.args.blocks.now c.in_ok-rows.rows c.push_rows.new.values.items c.in_ok-values.values.items
    c.in_ok-values.ensures.items c.in_ok-push_rows.ensures.pushed c.in-Err.field-0 (sym c.new.ensures ∙ c.in-Err.is)

pub returns-clause-height : goal.returns-clause-height
returns-clause-height g c =
    let blocks = c.args.blocks.now in
    let h = c.in_ok-rows.rows in
    let is = trace_is g.F.Field.ring blocks h c.push_rows.new.values.items c.in_ok-values.values.items
    c.in_ok-values.ensures.items c.in_ok-push_rows.ensures.pushed c.in-Ok.trace (sym c.new.ensures ∙ c.in-Ok.is) in
    subst (λ n. IsNextPowerOfTwo (length blocks) n)
    (sym (ap (λ t. length t.rows) is ∙ length-map-range_with_len (row_of g.F.Field.ring blocks) 0 h)) c.in_ok-rows.ensures.rows

pub returns-clause-blocks : goal.returns-clause-blocks
returns-clause-blocks g c =
    let R = g.F.Field.ring in
    let blocks = c.args.blocks.now in
    let h = c.in_ok-rows.rows in
    let is = trace_is R blocks h c.push_rows.new.values.items c.in_ok-values.values.items
    c.in_ok-values.ensures.items c.in_ok-push_rows.ensures.pushed c.in-Ok.trace (sym c.new.ensures ∙ c.in-Ok.is) in
    subst (λ t. HoldBlocks R blocks t) (sym is) (row_listed (row_of R blocks) h)

pub returns-clause-satisfied : goal.returns-clause-satisfied
returns-clause-satisfied g c =
    let R = g.F.Field.ring in
    let none = g.F.Field.ZERO in
    let blocks = c.args.blocks.now in
    let h = c.in_ok-rows.rows in
    let is = trace_is R blocks h c.push_rows.new.values.items c.in_ok-values.values.items
    c.in_ok-values.ensures.items c.in_ok-push_rows.ensures.pushed c.in-Ok.trace (sym c.new.ensures ∙ c.in-Ok.is) in
    λ big.
    subst (λ t. AreCompressionRows R none t) (sym is)
    (each_listed (row_of R blocks) h (IsCompressionRow R none)
    (λ k l.
    block_row_holds R none g.F.Field.CHARACTERISTIC g.met.F.Field.zero_is g.met.F.PrimeField.domain c.compression_is_complete.ensures.compression
    (block_in (block_for blocks k)) (c.in_ok-push_rows.ensures.words k l) big))

pub returns-clause-reports : goal.returns-clause-reports
returns-clause-reports g c =
    λ big.
    compression_rows_pass g.F.Field.ring g.F.PartialEq.eq g.met.F.Field.eq_is c.in-Ok.trace
    (subst (λ z. AreCompressionRows g.F.Field.ring z c.in-Ok.trace) g.met.F.Field.zero_is (returns-clause-satisfied g c big))

pub returns-clause-countable : goal.returns-clause-countable
returns-clause-countable g c =
    let blocks = c.args.blocks.now in
    let h = c.in_ok-rows.rows in
    let is = trace_is g.F.Field.ring blocks h c.push_rows.new.values.items c.in_ok-values.values.items
    c.in_ok-values.ensures.items c.in_ok-push_rows.ensures.pushed c.in-Ok.trace (sym c.new.ensures ∙ c.in-Ok.is) in
    subst (λ n. n * 9168 < 2 ^ 64)
    (sym (ap (λ t. length t.rows) is ∙ length-map-range_with_len (row_of g.F.Field.ring blocks) 0 h)) c.in_ok-rows.ensures.fits

-- the errors of a `?`
pub returns-in_err-rows-clause-refused : goal.returns-in_err-rows-clause-refused
returns-in_err-rows-clause-refused g c =
    let p = err_from_is_err_and c.from_residual.result c.from_residual.ensures.1 in
    rw (p.1, p.2, c.in_err-rows.ensures.why) c.in_err-rows.ensures.refused

pub returns-in_err-values-clause-refused : goal.returns-in_err-values-clause-refused
returns-in_err-values-clause-refused g c =
    let p = err_from_is_err_and c.from_residual-in_err-values.result c.from_residual-in_err-values.ensures.1 in
    rw (p.1, p.2) (c.in_ok-rows.rows, c.in_ok-rows.ensures.rows, c.in_ok-rows.ensures.fits)

pub returns-in_err-push_rows-clause-refused : goal.returns-in_err-push_rows-clause-refused
returns-in_err-push_rows-clause-refused g c =
    let p = err_from_is_err_and c.from_residual-in_err-push_rows.result c.from_residual-in_err-push_rows.ensures.1 in
    rw (p.1, p.2) (c.in_ok-rows.rows, c.in_ok-rows.ensures.rows, c.in_ok-rows.ensures.fits)
