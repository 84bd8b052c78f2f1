pub mod Membership
