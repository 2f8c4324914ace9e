-- Promise: the log of an object, whether it has failed, and whether its written bytes are flushed
use Rattle.std.specs.Prelude.{Bool}

pub record Watch (T : Type 0) : Type 0 where
  pub inner : T
  pub has_failed : Bool
  pub is_flushed : Bool
