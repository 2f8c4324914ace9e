-- Promise: the judged histories, and the count against the budget: a queue is over once two enqueues that have not failed have one value
use Rattle.models.specs.Objects.{Object, fifo_queue}
use Rattle.linspec.specs.Ends.{Count}
use Rattle.linspec.specs.Twins.{CountsTwins}

-- the object that is judged
abbrev pub the_object : Object
the_object = fifo_queue

-- a history that is linearizable, in which values differ no longer, has more than any number
abbrev pub counts_more : Count
counts_more = CountsTwins
