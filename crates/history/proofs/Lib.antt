-- The proofs of demand 3 and of the laws for captures. What crates above may cite: `demand-3`, its parts by sentence,
-- `orders` and `lines`, and the worked histories.
mod KeyBits
mod KeyLaw
mod Differ
mod Plain
mod Moves
mod Calls
mod Parts
mod Held
mod TwoSettings
mod SettingTick
mod TwoTicks
mod Logs
-- demand-3
pub mod Demanded
-- spent-fingers
pub mod Unread
-- accepted-answered, keys-told-in-turn, keys-told-once, several-silent, down-at-once, excepted-silent, all-sentences
pub mod Sentences
-- next-down, wakes-again
pub mod Awake
-- orders, lines, orders-anywhere, afterwards, broken-orders
pub mod Orders
-- worked-histories, turned-histories
pub mod Examples
