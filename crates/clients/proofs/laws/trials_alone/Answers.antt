use Rattle.clients.proofs.TrialsAlone.{trials_alone, all_played, all_struck, no_others, all_begun, run_of_trial}
use Rattle.clients.proofs.laws.trials_alone.Goals as goal

pub returns-clause-trials : goal.returns-clause-trials
returns-clause-trials c = λ m seats back tape fresh run is. trials_alone m seats back fresh run tape is

pub returns-clause-played : goal.returns-clause-played
returns-clause-played c = λ m threads seats back tape enough fresh run is. all_played m seats back fresh run threads enough tape is

pub returns-clause-struck : goal.returns-clause-struck
returns-clause-struck c = λ m threads seats back tape size fresh run is. all_struck m seats back fresh run threads size tape is

pub returns-clause-others : goal.returns-clause-others
returns-clause-others c = λ m seats back tape fresh run is seat far. no_others m seats back fresh run tape is seat far

pub returns-clause-begun : goal.returns-clause-begun
returns-clause-begun c = λ m threads seats back tape size fresh run is. all_begun m seats back fresh run threads size tape is

pub returns-clause-run : goal.returns-clause-run
returns-clause-run c = λ threads first last run. run_of_trial threads first last run
