-- What a contract sees of a source and of a sink in memory.
use Rattle.std.specs.Prelude.{ℕ, List}

pub record SourceInMemory : Type 0 where
  -- the bytes left
  pub left : List ℕ
  -- at most so many bytes are given by one read
  pub piece : ℕ
  -- the numbers, from 1, of the calls that fail
  pub failing : List ℕ
  -- the calls so far, the bytes taken so far and the faults so far
  pub calls : ℕ
  pub taken : ℕ
  pub faults : ℕ

pub record SinkInMemory : Type 0 where
  -- the bytes written
  pub written : List ℕ
  -- at most so many bytes are kept
  pub room : ℕ
  -- at most so many bytes are taken by one write
  pub piece : ℕ
  -- the numbers, from 1, of the calls that fail
  pub failing : List ℕ
  -- the calls so far and the faults so far
  pub calls : ℕ
  pub faults : ℕ
