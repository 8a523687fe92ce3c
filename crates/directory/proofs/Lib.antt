mod Bodies
mod Marked
mod Selected
mod Senders
