mod Framing
mod Taking
mod Written
