-- `obey` meets its contract: a command that starts nothing leaves whatever start list is lent.
use Rattle.plan.proofs.obey.obey.Goals as goal

pub returns-in-Plan : goal.returns-in-Plan
returns-in-Plan c = rw c.in-Plan.is (c.«open».ensures c.args.starts.now)

pub returns-in-Task : goal.returns-in-Task
returns-in-Task c = rw c.in-Task.is (c.add_task.ensures c.args.starts.now)

pub returns-in-Activation : goal.returns-in-Activation
returns-in-Activation c = rw c.in-Activation.is (c.append.ensures c.args.starts.now)

pub returns-in-Execution : goal.returns-in-Execution
returns-in-Execution c = rw c.in-Execution.is (c.append-in-Execution.ensures c.args.starts.now)

pub returns-in-Fetch : goal.returns-in-Fetch
returns-in-Fetch c = rw c.in-Fetch.is (c.fetch.ensures c.args.starts.now)
