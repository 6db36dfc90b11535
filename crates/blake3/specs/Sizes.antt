-- Words below 2^32.
use Rattle.std.specs.Prelude.{ℕ, ◌^◌, ◌<◌}
use Rattle.blake3.specs.Compression.{Block}
use Rattle.blake3.specs.declared.words.Quarter.{Quarter}
use Rattle.blake3.specs.declared.words.State.{State}

-- the four words of a column are below 2^32, and all sixteen of a state
pub record AreWords (q : Quarter) : Type 0 where
  pub a : q.a < 2 ^ 32
  pub b : q.b < 2 ^ 32
  pub c : q.c < 2 ^ 32
  pub d : q.d < 2 ^ 32

pub record AreStateWords (v : State) : Type 0 where
  pub q0 : AreWords v.q0
  pub q1 : AreWords v.q1
  pub q2 : AreWords v.q2
  pub q3 : AreWords v.q3

-- all words of the block are below 2^32
pub record AreBlockWords (b : Block) : Type 0 where
  pub chaining : (i : ℕ) → b.chaining i < 2 ^ 32
  pub message : (i : ℕ) → b.message i < 2 ^ 32
  pub counter_low : b.counter_low < 2 ^ 32
  pub counter_high : b.counter_high < 2 ^ 32
  pub length : b.length < 2 ^ 32
  pub flags : b.flags < 2 ^ 32
