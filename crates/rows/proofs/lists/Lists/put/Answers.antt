use Rattle.buckets.specs.Hashes.{hash_by}
use Rattle.rows.proofs.lists.Lists.put.Goals as goal

pub put_hashed-requires-clause-hash : goal.put_hashed-requires-clause-hash
unfolding hash_by
put_hashed-requires-clause-hash c = c.hash_of-hash.ensures
