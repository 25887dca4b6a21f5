use Rattle.walks.proofs.Exactly.{chains_end, used_exact, flanks_exact, requests_exact, branches_exact}
use Rattle.walks.proofs.Ascending.{requests_ascend, branches_ascend}
use Rattle.walks.proofs.walks_are_exact.Goals as goal

pub returns : goal.returns
returns c = record {
  chains = chains_end;
  used = used_exact;
  flanks = flanks_exact;
  requests = requests_exact;
  branches = branches_exact;
  requests_order = requests_ascend;
  branches_order = branches_ascend;
}
