use Rattle.std.proofs.Common.{arith}
use Rattle.keep_members.proofs.Standing.{text_said}
use Rattle.keep_members.proofs.said.is_said.Goals as goal

pub returns : goal.returns
returns c = record {
  mode = omega arith;
  mtime = c.args.members.now.mtime.in_range;
  atime = c.args.members.now.atime.in_range;
  ctime = c.args.members.now.ctime.in_range;
  uid = omega arith;
  gid = omega arith;
  user = text_said c.args.members.now.user;
  group = text_said c.args.members.now.group;
  inode = omega arith;
  device_id = omega arith;
  size = omega arith;
  links = omega arith;
  link_target = text_said c.args.members.now.link_target;
  device = omega arith;
}
