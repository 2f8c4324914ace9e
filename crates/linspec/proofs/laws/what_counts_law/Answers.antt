use Rattle.linspec.proofs.WhatCounts.{two_ends, not_three, one_end, not_two}
use Rattle.linspec.proofs.laws.what_counts_law.Goals as goal

pub returns-clause-two : goal.returns-clause-two
returns-clause-two c = two_ends

pub returns-clause-not_three : goal.returns-clause-not_three
returns-clause-not_three c = not_three

pub returns-clause-one : goal.returns-clause-one
returns-clause-one c = one_end

pub returns-clause-not_two : goal.returns-clause-not_two
returns-clause-not_two c = not_two
