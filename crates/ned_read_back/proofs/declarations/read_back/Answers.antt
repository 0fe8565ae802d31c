use Rattle.ned_read_back.proofs.ReadBack as laws
use Rattle.ned_read_back.proofs.declarations.read_back.Goals as goal

pub returns-clause-file : goal.returns-clause-file
returns-clause-file c = laws.read_back c.args.bytes.now

pub returns-clause-long : goal.returns-clause-long
returns-clause-long c = laws.says_the_same c.args.bytes.now

pub returns-clause-expression : goal.returns-clause-expression
returns-clause-expression c = laws.expression_read_back c.args.bytes.now

pub returns-clause-connection : goal.returns-clause-connection
returns-clause-connection c = laws.connection_read_back c.args.bytes.now
