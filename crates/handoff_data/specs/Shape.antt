-- Which shapes a machine may have.
use Rattle.std.specs.Prelude.{ℕ, ◌≤◌}
use Rattle.handoff_data.specs.declared.shape.Shape.{Shape}

-- 1 to 16 processors, in cache groups of 1 to all of them, and at most 200 tasks, 400 conditions and 4 agents
pub record IsShape (s : Shape) : Type 0 where
  pub some_cpu : 1 ≤ s.cpus
  pub few_cpus : s.cpus ≤ 16
  pub some_cache : 1 ≤ s.caches
  pub few_caches : s.caches ≤ s.cpus
  pub few_tasks : s.tasks ≤ 200
  pub few_conds : s.conds ≤ 400
  pub few_agents : s.agents ≤ 4
